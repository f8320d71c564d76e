use Rattle.std.proofs.Common.{◌≡◌, ◌++◌, [], ◌∷◌, map, string_bytes, if◌then◌else◌, append-nil, sym, ap, ◌∙◌}
use Rattle.isort_sort.specs.Line.{stripped, without_hash}
use Rattle.isort_sort.proofs.Rows.Comments.{said_more}
use Rattle.isort_sort.proofs.comment.own_comments.Goals as goal
use Rattle.isort_sort.proofs.comment.own_comments.Goals.{then-not-is_empty+in_ok-push_copy, else-not-is_empty}

pub loop-comment-preserved : goal.loop-comment-preserved
loop-comment-preserved c =
    let so_far = map string_bytes c.loop-comment.comments.items in
    let content = c.content-content.result.now in
    let here : map string_bytes c.if-not-is_empty.comments.items ≡ so_far ++ (if c.is_empty.result then [] else content ∷ []) = elim c.if-not-is_empty.branch [
      | then-not-is_empty+in_ok-push_copy w ↦
          ap (λ v. map string_bytes v.items) w.comments-is
          ∙ w.in_ok-push_copy.ensures
          ∙ ap (λ b. so_far ++ (if b then [] else content ∷ [])) (sym w.if-not-is_empty.true)
      | else-not-is_empty w ↦
          ap (λ v. map string_bytes v.items) w.comments-is
          ∙ sym (append-nil so_far)
          ∙ ap (λ b. so_far ++ (if b then [] else content ∷ [])) (sym w.if-not-is_empty.false)
    ] in
    here
    ∙ ap (λ l. l ++ (if c.is_empty.result then [] else content ∷ [])) c.loop-comment.invariant
    ∙ sym (said_more c.deref-comment-items.result.now c.loop-comment.comment-index c.comment-item.result content c.is_empty.result c.loop-comment-test.true c.comment-item.is (c.content-content.ensures ∙ ap (λ t. stripped (without_hash t)) c.as_str.ensures.value) c.is_empty.ensures)
