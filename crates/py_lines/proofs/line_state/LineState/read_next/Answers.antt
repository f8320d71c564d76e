use Rattle.py_lines.proofs.Prelude.{◌∙◌, IfSome, LineState, ap, err_from_is_err_and, subst, sym, take, transport}
use Rattle.py_lines.specs.Private.LineState.{HasNextLine, HoldsTokens, IsLineAfter, ReadsLine, reread, rescanned}
use Rattle.py_lines.proofs.Readers.GivenLines.{not_scanned}
use Rattle.py_lines.proofs.Readers.NextLines.{line_scanned}
use Rattle.py_lines.proofs.line_state.LineState.read_next.Goals as goal

pub returns-in_err-read : goal.returns-in_err-read
returns-in_err-read c = let (error, is, memory) = err_from_is_err_and c.from_residual.result c.from_residual.ensures.1 in rw (is, memory) c.in_err-read.ensures.same

pub returns-in-Some : goal.returns-in-Some
returns-in-Some c =
    let s = c.args.self.now in
    let read = subst (λ o. IfSome o (λ r. ReadsLine s c.args.bytes.now r.0 r.1 c.read_simple.new.self)) c.in-Some.is c.in_ok-read.ensures.reads in
    record { same = c.in_ok-read.ensures.same; is = line_scanned s read.scans; tokens = read.tokens; after_is = read.after_is }

pub returns-in_err-end_len : goal.returns-in_err-end_len
returns-in_err-end_len c =
    let (error, is, same) = err_from_is_err_and c.from_residual-in_err-end_len.result c.from_residual-in_err-end_len.ensures.1 in
    rw (is, same) (not_scanned c.args.self.now c.scan_line.new.self c.args.bytes.now c.in_err-end_len.field-0.0 c.in_ok-read.ensures.same c.in_err-end_len.ensures)

pub read_line-requires-clause-text : goal.read_line-requires-clause-text
read_line-requires-clause-text c = let next = c.in_ok-end_len.ensures.1 in (next.is.pieces, (next.is.text, next.is.ends))

-- the scan and the tokens alone have changed
pub returns-in_err-after : goal.returns-in_err-after
returns-in_err-after c =
    let new = c.read_line.new.self in
    let (error, is, memory) = err_from_is_err_and c.from_residual-in_err-after.result c.from_residual-in_err-after.ensures.1 in
    rw (is, memory) (c.in_err-after.ensures.same ∙ ap (λ t. reread t new) (c.in_ok-end_len.ensures.0 ∙ ap (λ t. rescanned t c.scan_line.new.self) c.in_ok-read.ensures.same))

pub returns : goal.returns
returns c =
    let new = c.read_line.new.self in
    let bytes = c.args.bytes.now in
    let first = c.in_ok-read.ensures.same in
    let (same, next) = c.in_ok-end_len.ensures in
    let stop = sym c.in_ok-after.ensures.stop in
    let line = ap (λ (t : LineState). t.line) (same ∙ ap (λ t. rescanned t c.scan_line.new.self) first) in
    record {
      same = c.in_ok-after.ensures.same ∙ ap (λ t. reread t new) (same ∙ ap (λ t. rescanned t c.scan_line.new.self) first);
      is = transport (λ i. HasNextLine (first i).place (first i).line bytes (stop i) c.in_ok-end_len.end_len) next;
      tokens = transport (λ i. HoldsTokens (take (stop i) bytes) c.in_ok-end_len.end_len (line i) new.tokens.items) c.in_ok-after.ensures.tokens;
      after_is = transport (λ i. IsLineAfter (line i) (take (stop i) bytes) c.in_ok-end_len.end_len c.in_ok-after.after) c.in_ok-after.ensures.after;
    }
