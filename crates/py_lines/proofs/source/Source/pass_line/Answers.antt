use Rattle.py_lines.proofs.Prelude.{◌≡◌, ◌+◌, err_from_is_err_and, sym, ap, ◌∙◌, subst, arith, length, LineState, spelled, reader_of, rest_is}
use Rattle.py_lines.specs.Outline.{Outline}
use Rattle.py_lines.specs.Reader.{Reader}
use Rattle.py_lines.specs.Private.LineState.{HasNextLine}
use Rattle.py_lines.specs.Private.Source.{HasNextOf}
use Rattle.py_lines.proofs.Readers.GivenLines.{IsNext, ends_there, fails_again, is_line, logical, next_at, moved, outline_is, passes_it, pieces, bounds, reader_at, not_passed, stays_scanned}
use Rattle.py_lines.proofs.source.Source.pass_line.Goals as goal
use Rattle.py_lines.proofs.source.Source.pass_line.Goals.{In_ok-end_len}

-- what was scanned, in the text
scanned : (c : In_ok-end_len) → (reader_at c.args.self.now.bytes.now c.scan_line.new.self ≡ reader_of c.args.self.now) × HasNextOf (reader_of c.args.self.now) c.scan_line.new.self.scan.stop c.in_ok-end_len.end_len
scanned c =
    let s = c.args.self.now in
    let (same, there) = c.in_ok-end_len.ensures in
    (ap (reader_at s.bytes.now) same, subst (λ b. HasNextLine s.state.place s.state.line b c.scan_line.new.self.scan.stop c.in_ok-end_len.end_len) (rest_is s.bytes.now s.state.place) there)

pub returns : goal.returns
returns c =
    let s = c.args.self.now in
    let (same, there) = scanned (goal.at.returns c).In_ok-end_len in
    let next : IsNext (reader_of s) c.line-line.result = next_at same there c.line-line.ensures in
    let ends = c.line_ends.ensures.count (spelled (pieces next)) ((is_line next).0.spell ∙ sym c.as_bytes.ensures.value) in (
      logical next,
      outline_is next,
      passes_it next _ c.in_default.is (moved _ _ same c.pass.ensures
          ((λ i. ap (λ (o : Outline). o.line) next.is i + ends i))),
    )

pub invariant_of-self-2 : goal.invariant_of-self-2
invariant_of-self-2 c =
    let (same, there) = scanned (goal.at.invariant_of-self-2 c).In_ok-end_len in
    let next : IsNext (reader_of c.args.self.now) c.line-line.result = next_at same there c.line-line.ensures in
    let (within, few) = bounds next in
    let place = ap (λ (r : Reader). r.place) same in
    let line = ap (λ (r : Reader). r.line) same in
    let to = c.pass.ensures in
    record {
      within = omega (arith, ap (λ (t : LineState). t.place) to, place, within, ap (λ (r : Reader). length r.text) same);
      few_lines = omega (arith, ap (λ (t : LineState). t.place) to, ap (λ (t : LineState). t.line) to, place, line, ap (λ (o : Outline). o.line) next.is, c.line_ends.ensures.few, ap length c.as_bytes.ensures.value, c.args.self.now.few_lines);
    }

pub pass-requires : goal.pass-requires
pass-requires c =
    let (same, there) = scanned (goal.at.pass-requires c).In_ok-end_len in
    let next : IsNext (reader_of c.args.self.now) c.line-line.result = next_at same there c.line-line.ensures in
    omega (arith, ap (λ (r : Reader). r.place) same, (bounds next).0)

pub returns-then-place-self : goal.returns-then-place-self
returns-then-place-self c = ends_there (reader_of c.args.self.now) c.in_default.is c.if-place-self.true

pub line-line-requires : goal.line-line-requires
line-line-requires c =
    let (same, there) = scanned (goal.at.line-line-requires c).In_ok-end_len in
    subst (λ (r : Reader). HasNextOf r c.scan_line.new.self.scan.stop c.in_ok-end_len.end_len) (sym same) there

pub returns-in-Some : goal.returns-in-Some
returns-in-Some c = fails_again _ c.in-Some.is

pub returns-in_err-end_len : goal.returns-in_err-end_len
returns-in_err-end_len c =
    let s = c.args.self.now in
    let (error, is, same) = err_from_is_err_and c.from_residual.result c.from_residual.ensures.1 in
    rw (is, same) (not_passed s.bytes.now s.state c.scan_line.new.self (rest_is s.bytes.now s.state.place) c.in_default.is (omega (arith, c.if-place-self.false, s.within)) c.in_err-end_len.field-0.0 c.in_err-end_len.ensures)

pub invariant_of-self : goal.invariant_of-self
invariant_of-self c =
    let s = c.args.self.now in
    let (place, line) = stays_scanned s.state c.scan_line.new.self _ c.scan_line.result c.scan_line.ensures in
    record { within = omega (arith, place, s.within); few_lines = omega (arith, place, line, s.few_lines) }
