use Rattle.py_lines.proofs.Prelude.{◌≡◌, ℕ, ◌∙◌, List, Result, sym, subst, ap, refl, Scan, LineFault, LineState, arith, first_mode}
use Rattle.py_lines.specs.Private.LineScan.{ScansIn, WhereverReached, first_open}
use Rattle.py_lines.specs.Private.LineState.{rescanned}
use Rattle.py_lines.specs.Private.Scan.{opened_at}
use Rattle.py_lines.specs.declared.mode.Mode.{Mode}
use Rattle.py_lines.specs.declared.scan.Stop.{Stop}
use Rattle.py_lines.proofs.LineScan.LineSteps.{begun_reached}
use Rattle.py_lines.proofs.LineScan.TextSteps.{begun_sound}
use Rattle.py_lines.proofs.Readers.NextLines.{HasNextFault, IsScanned, character_refused, left_pending, line_scanned, meets, stops_within, text_ended}
use Rattle.py_lines.proofs.line_state.LineState.scan_line.Goals as goal
use Rattle.py_lines.proofs.line_state.LineState.scan_line.Goals.{In-Err, Joined-extend, in-LineEnd, in-TextEnd, in-Wrong}

-- the scan was begun anew, and has stopped so
scanned : (n : ℕ) {mode : Mode} {begun scan : Scan} {stop : Stop} {bytes : List ℕ} → mode ≡ first_open (first_mode n) → begun ≡ opened_at mode → WhereverReached begun bytes (λ m whole. ScansIn m whole scan stop)
    → ScansIn (first_mode n) bytes scan stop
scanned n {bytes = bytes} mode begun scans = scans (first_mode n) bytes (begun_sound n) (begun_reached (begun ∙ ap opened_at mode) (begun_sound n) bytes)

pub extend-requires-clause-way : goal.extend-requires-clause-way
extend-requires-clause-way c =
    let n = c.args.self.now.place in (first_mode n, c.args.bytes.now, begun_sound n, begun_reached (c.restart.ensures ∙ ap opened_at c.first_mode.ensures) (begun_sound n) c.args.bytes.now)

pub slice_bounds-end-count : goal.slice_bounds-end-count
slice_bounds-end-count c = stops_within c.args.self.now (scanned c.args.self.now.place c.first_mode.ensures c.restart.ensures c.in-TextEnd.ensures.stops)

pub slice_bounds-end-start : goal.slice_bounds-end-start
slice_bounds-end-start c = stops_within c.args.self.now (scanned c.args.self.now.place c.first_mode.ensures c.restart.ensures c.in-TextEnd.ensures.stops)

pub end-scanned-requires-clause-pending : goal.end-scanned-requires-clause-pending
end-scanned-requires-clause-pending c = left_pending c.args.self.now (scanned c.args.self.now.place c.first_mode.ensures c.restart.ensures c.in-TextEnd.ensures.stops)

-- the scan came to this, and the state after it
at : (s : LineState) (bytes : List ℕ) {state : LineState} {scan : Scan} {result is : Result ℕ LineFault} → state ≡ record s { scan = scan } → result ≡ is → IsScanned s bytes is scan.stop
    → (state ≡ rescanned s state) × IsScanned s bytes result state.scan.stop
at s bytes {state} {is = is} same comes scanned =
    (subst (λ t. t ≡ rescanned s t) (sym same) refl, subst (λ r. IsScanned s bytes r state.scan.stop) (sym comes) (subst (λ (t : LineState). IsScanned s bytes is t.scan.stop) (sym same) scanned))

is_scanned : (c : Joined-extend) → let s = c.args.self.now in (c.match-extend.self ≡ rescanned s c.match-extend.self) × IsScanned s c.args.bytes.now c.match-extend.scanned c.match-extend.self.scan.stop
is_scanned c =
    let s = c.args.self.now in
    elim c.match-extend.branch [
      | in-LineEnd w ↦ at s c.args.bytes.now w.self-is w.scanned-is (line_scanned s (scanned s.place c.first_mode.ensures c.restart.ensures w.in-LineEnd.ensures.stops))
      | in-TextEnd w ↦ at s c.args.bytes.now w.self-is w.scanned-is (text_ended s (scanned s.place c.first_mode.ensures c.restart.ensures w.in-TextEnd.ensures.stops) c.requires.some w.end-scanned.result w.end-scanned.new.self w.end-scanned.ensures)
      | in-Wrong w ↦ at s c.args.bytes.now w.self-is w.scanned-is (character_refused s (scanned s.place c.first_mode.ensures c.restart.ensures w.in-Wrong.ensures.stops))
    ]

-- this is wrong in the line
wrong : (c : In-Err) → HasNextFault c.args.self.now c.args.bytes.now c.in-Err.line_fault
wrong c = subst (λ r. IsScanned c.args.self.now c.args.bytes.now r c.match-extend.self.scan.stop) c.in-Err.is (is_scanned (goal.at.In-Err c).Joined-extend).1

pub fail-requires-clause-within : goal.fail-requires-clause-within
fail-requires-clause-within c = (wrong (goal.at.fail-requires-clause-within c).In-Err).within

pub fail-requires-clause-bytes : goal.fail-requires-clause-bytes
fail-requires-clause-bytes c =
    omega (arith, (wrong (goal.at.fail-requires-clause-bytes c).In-Err).within, ap (λ (s : LineState). s.place) (is_scanned (goal.at.fail-requires-clause-bytes c).Joined-extend).0, c.requires.places)

pub fail-requires-clause-lines : goal.fail-requires-clause-lines
fail-requires-clause-lines c =
    omega (arith, (wrong (goal.at.fail-requires-clause-lines c).In-Err).within, ap (λ (s : LineState). s.line) (is_scanned (goal.at.fail-requires-clause-lines c).Joined-extend).0, c.requires.lines)

pub returns-in-Ok : goal.returns-in-Ok
returns-in-Ok c =
    let (same, is) = is_scanned (goal.at.returns-in-Ok c).Joined-extend in
    (same, subst (λ r. IsScanned c.args.self.now c.args.bytes.now r c.match-extend.self.scan.stop) c.in-Ok.is is)

pub returns-in-Err : goal.returns-in-Err
returns-in-Err c = meets (is_scanned (goal.at.returns-in-Err c).Joined-extend).0 (wrong (goal.at.returns-in-Err c).In-Err) c.fail.ensures
