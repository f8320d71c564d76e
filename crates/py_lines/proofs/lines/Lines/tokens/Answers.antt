use Rattle.py_lines.proofs.Prelude.{List, ◌∙◌, sym, subst, refl, Token, EachLiesIn}
use Rattle.py_lines.proofs.LineTokens.Outlines.{lies_of, with_own}
use Rattle.py_lines.proofs.lines.Lines.tokens.Goals as goal

pub unit-requires : goal.unit-requires
unit-requires c =
    let (line, is) = c.requires.line in
    subst (λ (ts : List Token). EachLiesIn c.args.line.text.now ts) (sym (c.as_slice.ensures.value ∙ c.in_ok-read_tokens.ensures.tokens line is)) (lies_of is)

pub returns : goal.returns
returns c = (
  (
    refl,
    λ _. _,
    (
      c.in_ok-read_tokens.ensures.same ∙ c.self.view_is,
      λ line is. c.unit.ensures ∙ with_own is (c.as_slice.ensures.value ∙ c.in_ok-read_tokens.ensures.tokens line is),
    ),
  ),
  _,
)
