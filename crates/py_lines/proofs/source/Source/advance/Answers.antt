use Rattle.py_lines.proofs.Prelude.{LineState, err_from_is_err_and, sym, ap, subst, arith, rest_is, reader_of}
use Rattle.py_lines.specs.Reader.{Reader}
use Rattle.py_lines.specs.Private.LineState.{HasNextLine}
use Rattle.py_lines.specs.Private.Source.{HasNextOf}
use Rattle.py_lines.proofs.Readers.GivenLines.{bounds, ends_there, fails_again, is_read, not_read, passes_read, reader_at, stays, within_read}
use Rattle.py_lines.proofs.source.Source.advance.Goals as goal

pub returns-then-place-self : goal.returns-then-place-self
returns-then-place-self c = ends_there (reader_of c.args.self.now) c.in_default.is c.if-place-self.true

pub returns-in-Some : goal.returns-in-Some
returns-in-Some c = fails_again _ c.in-Some.is

pub returns-in_err-end_len : goal.returns-in_err-end_len
returns-in_err-end_len c =
    let s = c.args.self.now in
    let (error, is, same) = err_from_is_err_and c.from_residual.result c.from_residual.ensures.1 in
    rw (is, same) (not_read s.bytes.now s.state c.read_next.new.self (rest_is s.bytes.now s.state.place) c.in_default.is (omega (arith, c.if-place-self.false, s.within)) c.in_err-end_len.field-0.0 c.in_err-end_len.ensures)

pub invariant_of-self : goal.invariant_of-self
invariant_of-self c =
    let s = c.args.self.now in
    let (place, line) = stays s.state c.read_next.new.self _ c.read_next.result c.read_next.ensures in
    record { within = omega (arith, place, s.within); few_lines = omega (arith, place, line, s.few_lines) }

pub line-line-requires : goal.line-line-requires
line-line-requires c =
    let s = c.args.self.now in
    let read = c.in_ok-end_len.ensures in
    subst (λ (r : Reader). HasNextOf r c.read_next.new.self.scan.stop c.in_ok-end_len.end_len) (ap (reader_at s.bytes.now) (sym read.same))
    (subst (λ b. HasNextLine s.state.place s.state.line b c.read_next.new.self.scan.stop c.in_ok-end_len.end_len) (rest_is s.bytes.now s.state.place) read.is)

pub pass-requires : goal.pass-requires
pass-requires c =
    let s = c.args.self.now in
    let read = c.in_ok-end_len.ensures in
    omega (arith, ap (λ (t : LineState). t.place) read.same, (bounds (is_read s.bytes.now c.line-line.result (rest_is s.bytes.now s.state.place) read c.line-line.ensures)).0)

pub invariant_of-self-2 : goal.invariant_of-self-2
invariant_of-self-2 c =
    let s = c.args.self.now in
    let (within, few) = within_read s.bytes.now c.line-line.result (rest_is s.bytes.now s.state.place) c.in_ok-end_len.ensures c.line-line.ensures c.pass.ensures s.few_lines in
    record { within = within; few_lines = few }

pub returns : goal.returns
returns c =
    let s = c.args.self.now in
    passes_read s.bytes.now c.line-line.result (rest_is s.bytes.now s.state.place) c.in_ok-end_len.ensures c.line-line.ensures c.pass.ensures c.in_default.is
