use Rattle.py_lines.specs.Reader.{Continues, Ends}
use Rattle.py_lines.specs.UnitLine.{outline_in}
use Rattle.py_lines.specs.Private.Outline.{with_tokens}
use Rattle.py_lines.proofs.Prelude.{List, Ok, sym, subst, refl, ap, ◌∙◌, Token, EachLiesIn, transport, reader_of}
use Rattle.py_lines.specs.Private.Source.{Advances}
use Rattle.py_lines.proofs.lines.Lines.next_unit.Goals as goal

pub unit-requires : goal.unit-requires
unit-requires c =
    subst (λ (ts : List Token). EachLiesIn c.in-Some.line.text.now ts) (sym c.as_slice.ensures.value)
    (subst (λ o. Advances (reader_of c.self.inside.source) (Ok o) (reader_of c.advance.new.self) c.advance.new.self.state.tokens.items) c.in-Some.is c.in_ok-line.ensures).1

pub returns : goal.returns
returns c =
    let passes = subst (λ o. Advances (reader_of c.self.inside.source) (Ok o) (reader_of c.advance.new.self) c.advance.new.self.state.tokens.items) c.in-Some.is c.in_ok-line.ensures in
    let line = c.unit.ensures ∙ ap (with_tokens (outline_in c.in-Some.line)) c.as_slice.ensures.value in
    ((refl, (λ _. tt), transport (λ i. Continues (c.self.view_is i) (sym line i) (reader_of c.advance.new.self)) passes.0.continues), record { next = tt })

pub returns-in_default : goal.returns-in_default
returns-in_default c =
    ((refl, (λ _. tt), subst (λ r. Ends r (reader_of c.advance.new.self)) c.self.view_is (subst (λ o. Advances (reader_of c.self.inside.source) (Ok o) (reader_of c.advance.new.self) c.advance.new.self.state.tokens.items) c.in_default.is c.in_ok-line.ensures)), record { next = tt })
