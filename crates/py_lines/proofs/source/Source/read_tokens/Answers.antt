use Rattle.py_lines.proofs.Prelude.{◌≡◌, ◌+◌, ◌-◌, ◌<◌, ◌≤◌, [], ◌∷◌, ◌++◌, length, sym, ap, ◌∙◌, arith, rules, subst}
use Rattle.std.proofs.lemmas.Result.{on_ok_weaker}
use Rattle.py_lines.specs.LogicalLine.{LogicalLine, token}
use Rattle.py_lines.specs.Outline.{IsOutlineOf}
use Rattle.py_lines.specs.UnitLine.{outline_in}
use Rattle.py_lines.specs.Private.LineTokens.{AreLineText, mark_len}
use Rattle.py_lines.specs.declared.token.TokKind.TheVariants as kind
use Rattle.py_lines.proofs.LineTokens.Outlines.{ends_of, text_of, token_of_comment}
use Rattle.py_lines.proofs.source.Source.read_tokens.Goals as goal
use Rattle.py_lines.proofs.source.Source.read_tokens.Goals.{After-mark_len}

-- where the comment stands, and what its line's token is
place : (c : After-mark_len) → let l = c.args.line.now in let start = c.mark_len.result + l.indent in
    (start ≤ length l.text.now - l.end_len) × (l.end_len ≤ length l.text.now)
    × ((line : LogicalLine) → IsOutlineOf (outline_in l) line → token kind.Remark start (length l.text.now - l.end_len) l.line ∷ [] ≡ line.tokens)
place c =
    let l = c.args.line.now in
    let (line, is) = c.requires in
    let (tokens, less, within) = token_of_comment is c.in-Comment.is in
    let mark : c.mark_len.result ≡ mark_len l.text.now = c.mark_len.ensures ∙ ap mark_len c.as_bytes-text.ensures.value in (
      omega (arith, less, mark),
      within,
      λ other own. ap (λ n. token kind.Remark (n + l.indent) (length l.text.now - l.end_len) l.line ∷ []) mark ∙ sym (token_of_comment own c.in-Comment.is).0,
    )

pub overflow_add-start : goal.overflow_add-start
overflow_add-start c =
    let (less, within, told) = place (goal.at.overflow_add-start c).After-mark_len in
    let bound : c.mark_len.result + c.args.line.now.indent < 18446744073709551616 = omega (arith, less, c.args.line.now.places_fit) in search (rules, bound)

pub overflow_sub-len : goal.overflow_sub-len
overflow_sub-len c = omega (arith, (place (goal.at.overflow_sub-len c).After-mark_len).1, ap length c.as_bytes-text.ensures.value)

pub overflow_sub-len-in-Comment : goal.overflow_sub-len-in-Comment
overflow_sub-len-in-Comment c = omega (arith, (place (goal.at.overflow_sub-len-in-Comment c).After-mark_len).0, ap length c.as_bytes-text.ensures.value)

pub add_token-requires : goal.add_token-requires
add_token-requires c =
    let (less, within, told) = place (goal.at.add_token-requires c).After-mark_len in
    omega (arith, less, within, ap length c.as_bytes-text.ensures.value, c.args.line.now.places_fit)

pub returns-in-Comment-clause-tokens : goal.returns-in-Comment-clause-tokens
returns-in-Comment-clause-tokens c =
    let l = c.args.line.now in
    let at = (goal.at.returns-in-Comment-clause-tokens c).After-mark_len in
    let (less, within, told) = place at in
    let start = c.mark_len.result + l.indent in
    let stop : start + (length c.as_bytes-text.result.now - l.end_len - start) ≡ length l.text.now - l.end_len
    = omega (arith, less, within, ap length c.as_bytes-text.ensures.value) in
    on_ok_weaker c.add_token.result (λ is. λ line own. is ∙ (λ i. c.clear.ensures.items i ++ token kind.Remark start (stop i) l.line ∷ []) ∙ told line own)
    c.add_token.ensures

pub read_line-requires : goal.read_line-requires
read_line-requires c =
    let (line, is) = c.requires in
    let text = sym c.as_bytes-text.ensures.value in
    record {
      text = (is.pieces, (subst (λ t. AreLineText t is.pieces) text (text_of is), ends_of is));
      lines = omega (arith, c.args.line.now.lines_fit, ap length c.as_bytes-text.ensures.value);
    }

pub invariant_of-self-2 : goal.invariant_of-self-2
invariant_of-self-2 c = grind arith

pub returns : goal.returns
returns c = grind arith
