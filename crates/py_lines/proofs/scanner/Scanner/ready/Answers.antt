use Rattle.py_lines.proofs.Prelude.{IsUtf8, ◌≡◌, take, sym, ap, ◌∙◌, subst, transport, arith, length, length-take, spelled, EachLiesIn}
use Rattle.py_lines.specs.Outline.{Outline}
use Rattle.py_lines.specs.Private.Feed.{StandsSo}
use Rattle.py_lines.proofs.Feeds.ReadyLines.{ready_lies}
use Rattle.py_lines.proofs.scanner.Scanner.ready.Goals as goal

pub unit-requires : goal.unit-requires
unit-requires c =
    let f = c.self.inside.feed in
    let text : c.of-line.result.text.now ≡ take f.state.scan.stop f.held.items
    = ap (λ (o : Outline). o.text) c.of-line.ensures ∙ ap (take f.state.scan.stop) c.deref.ensures.value in
    transport (λ i. EachLiesIn (sym text i) (sym c.as_slice.ensures.value i))
    (ready_lies f c.in_ok-end_len.end_len (subst (StandsSo f) c.in_ok-end_len.was c.self.invariant.state))

pub of-line-requires-clause-utf8 : goal.of-line-requires-clause-utf8
of-line-requires-clause-utf8 c =
    let f = c.self.inside.feed in
    let line = (subst (StandsSo f) c.in_ok-end_len.was c.self.invariant.state).holds in
    subst (λ t. IsUtf8 (take f.state.scan.stop t)) (sym c.deref.ensures.value) (spelled line.pieces, (line.text.scalars, line.text.spell))

pub of-line-requires-clause-places : goal.of-line-requires-clause-places
of-line-requires-clause-places c =
    let f = c.self.inside.feed in
    omega (arith, length-take f.state.scan.stop c.deref.result.now, ap length c.deref.ensures.value, c.self.invariant.room.fits)

pub of-line-requires-clause-lines : goal.of-line-requires-clause-lines
of-line-requires-clause-lines c =
    let f = c.self.inside.feed in
    omega (arith, length-take f.state.scan.stop c.deref.result.now, ap length c.deref.ensures.value, c.self.invariant.room.fits, c.self.invariant.room.few_lines)

pub returns-clause-some : goal.returns-clause-some
returns-clause-some c = grind arith

pub returns-clause-some_text : goal.returns-clause-some_text
returns-clause-some_text c = grind arith

pub slice_bounds-text-end : goal.slice_bounds-text-end
slice_bounds-text-end c = grind arith

pub returns-in_err-end_len-clause-some_text : goal.returns-in_err-end_len-clause-some_text
returns-in_err-end_len-clause-some_text c = grind arith

pub returns-clause-none : goal.returns-clause-none
returns-clause-none c = grind arith

pub returns-in_err-end_len-clause-some : goal.returns-in_err-end_len-clause-some
returns-in_err-end_len-clause-some c = grind arith
