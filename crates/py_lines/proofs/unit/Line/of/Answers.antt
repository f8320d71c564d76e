use Rattle.py_lines.proofs.Prelude.{◌≡◌, arith, drop, ap, ◌∙◌, subst, is_break, is_hash, is_space, nat_tests, rest_is, rest_of}
use Rattle.py_lines.specs.Private.Outline.{indent_in, kind_from, unmarked}
use Rattle.py_lines.specs.Private.Run.{IsRunOf}
use Rattle.py_lines.proofs.LineTokens.Outlines.{run_prefix}
use Rattle.py_lines.proofs.unit.Line.of.Goals as goal
use Rattle.py_lines.proofs.unit.Line.of.Goals.{Joined-unmarked-indent-lt1, in-35, in-empty, in-empty-2, in_default}

kind : (c : Joined-unmarked-indent-lt1) → c.if-unmarked-indent-lt1.kind ≡ kind_from (rest_of (rest_of c.args.text.now c.mark_len.result) c.space_len-indent.result)
unfolding is_break is_hash
kind c = elim c.if-unmarked-indent-lt1.branch [
  | in-35 w ↦ w.kind-is ∙ grind arith
  | in-empty w ↦ w.kind-is ∙ grind arith
  | in-empty-2 w ↦ w.kind-is ∙ grind arith
  | in_default w ↦ w.kind-is ∙ grind arith
]

pub returns : goal.returns
returns c =
    let text = c.args.text.now in
    let bare : rest_of text c.mark_len.result ≡ unmarked text = rest_is text c.mark_len.result ∙ ap (λ n. drop n text) c.mark_len.ensures in
    let indent : c.space_len-indent.result ≡ indent_in text = run_prefix is_space _ _ (subst (λ l. IsRunOf is_space l c.space_len-indent.result) bare c.space_len-indent.ensures) in
    let kind = kind (goal.at.returns c).Joined-unmarked-indent-lt1 ∙ ap kind_from (rest_is (rest_of text c.mark_len.result) c.space_len-indent.result ∙ (λ i. drop (indent i) (bare i))) in
    λ i. record { kind = kind i; text = c.from_utf8_unchecked.ensures i; offset = c.args.offset; line = c.args.line; indent = indent i; end_len = c.args.end_len }

pub invariant_of-result : goal.invariant_of-result
invariant_of-result c = grind (arith, nat_tests)
