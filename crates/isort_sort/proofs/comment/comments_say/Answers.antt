use Rattle.std.proofs.Common.{◌||◌, ◌&&◌, ◌+◌, drop, sym, ap, ◌∙◌}
use Rattle.py_imports.specs.ActionComment.{says}
use Rattle.isort_sort.proofs.Rows.Comments.{comments_say, says_on, token_is_at, word_at}
use Rattle.isort_sort.proofs.comment.comments_say.Goals as goal
use Rattle.isort_sort.proofs.comment.comments_say.Goals.{else-is_comment-via-then-is_comment+else-says, else-is_comment-via-else-is_comment}

pub returns-then-says : goal.returns-then-says
returns-then-says c =
    let text = c.args.unit.now.text.now in
    let tokens = c.args.unit.now.tokens.now in
    let comment = word_at text tokens c.tokens.place in
    let others = comments_say c.args.action text (drop (c.tokens.place + 1) tokens) in
    let word = c.word.ensures _ (token_is_at tokens c.tokens.place c.tokens-test.true) in
    sym (says_on c.args.action text tokens c.tokens.place c.tokens-test.true c.tokens.invariant
    ∙ ap (λ b. b && says c.args.action comment || others) (sym c.is_comment.ensures ∙ c.if-is_comment.true)
    ∙ ap (λ b. b || others) (ap (says c.args.action) (sym word) ∙ sym c.says.ensures ∙ c.if-says.true))

pub tokens-preserved : goal.tokens-preserved
tokens-preserved c =
    let text = c.args.unit.now.text.now in
    let tokens = c.args.unit.now.tokens.now in
    let comment = word_at text tokens c.tokens.place in
    let others = comments_say c.args.action text (drop (c.tokens.place + 1) tokens) in
    let on = says_on c.args.action text tokens c.tokens.place c.tokens-test.true c.tokens.invariant in
    elim c.else-is_comment.branch [
      | else-is_comment-via-then-is_comment+else-says w ↦
          on
          ∙ ap (λ b. b && says c.args.action comment || others) (sym c.is_comment.ensures ∙ w.if-is_comment.true)
          ∙ ap (λ b. b || others) (ap (says c.args.action) (sym (w.word.ensures _ (token_is_at tokens c.tokens.place c.tokens-test.true))) ∙ sym w.says.ensures ∙ w.if-says.false)
      | else-is_comment-via-else-is_comment w ↦ on ∙ ap (λ b. b && says c.args.action comment || others) (sym c.is_comment.ensures ∙ w.if-is_comment.false)
    ]
