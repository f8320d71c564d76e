use Rattle.std.proofs.lemmas.Grind.{common_steps}
use Rattle.py_lines.proofs.Prelude.{◌≡◌, ◌≤◌, ℕ, ◌+◌, ◌-◌, ◌==◌, sym, ap, ◌∙◌, arith, is_some, length, length-take, get_or_default_zero, byte_len}
use Rattle.py_lines.specs.Private.Feed.{Stop, StopsHeld}
use Rattle.py_lines.specs.Settled.{IsHopeless}
use Rattle.py_lines.proofs.Readers.LineAnswers.{all_within}
use Rattle.py_lines.proofs.Readers.LineFaults.{refused_within}
use Rattle.py_lines.proofs.Text.Incomplete.{tells_hopeless, tells_ok, tells_part}
use Rattle.py_lines.proofs.Feeds.GivenBack.{returns_is, stays_line, stays_open, stop_some, stop_within}
use Rattle.py_lines.proofs.Feeds.LastBytes.{one_most}
use Rattle.py_lines.proofs.Feeds.OpenLine.{fails_so, held_refused, hopeless_held, open_within, part_fails, part_held, within_held}
use Rattle.py_lines.proofs.feed.Feed.meet.Goals.{After-valid_up_to, In-LineEnd, In-TextEnd, In-Wrong, in_default-via-in-Err+else-is_some, in_default-via-in_default}
use Rattle.py_lines.proofs.feed.Feed.meet.Goals as goal

-- where the scan has stopped
line_ended : (c : In-LineEnd) → StopsHeld c.args.self.now (Stop.LineEnd c.in-LineEnd.len)
line_ended c = rw c.in-LineEnd.is at c.requires.stops

left : (c : In-TextEnd) → StopsHeld c.args.self.now Stop.TextEnd
left c = rw c.in-TextEnd.is at c.requires.stops

refused : (c : In-Wrong) → StopsHeld c.args.self.now (Stop.Wrong c.in-Wrong.line_fault)
refused c = rw c.in-Wrong.is at c.requires.stops

pub overflow_sub-scanned : goal.overflow_sub-scanned
overflow_sub-scanned c = stop_some (line_ended (goal.at.overflow_sub-scanned c).In-LineEnd)

pub index-requires : goal.index-requires
index-requires c = let s = line_ended (goal.at.index-requires c).In-LineEnd in omega (arith, stop_some s, stop_within s)

pub overflow_add-end : goal.overflow_add-end
overflow_add-end c = let s = line_ended (goal.at.overflow_add-end c).In-LineEnd in omega (arith, stop_within s, c.requires.room.fits, one_most (c.index.result.now == 13))

pub returns-in-LineEnd-clause-meets : goal.returns-in-LineEnd-clause-meets
returns-in-LineEnd-clause-meets c =
    let f = c.args.self.now in let s = line_ended (goal.at.returns-in-LineEnd-clause-meets c).In-LineEnd in
    let last = c.index.ensures ∙ get_or_default_zero f.held.items (f.state.scan.stop - 1) c.index.result.now (omega (arith, stop_some s, stop_within s)) in
    stays_line f c.args.before c.requires.within s (c.index.result.now == 13) (ap (λ (b : ℕ). b == 13) last ∙ returns_is s) c.truncate.new.self c.max.result _ (omega (arith, c.len.ensures)) c.truncate.ensures.items c.max.ensures

pub slice_bounds-from_utf8-count : goal.slice_bounds-from_utf8-count
slice_bounds-from_utf8-count c = let l = (left (goal.at.slice_bounds-from_utf8-count c).In-TextEnd).stops in open_within c.args.self.now l.left l.reached _ c.deref.ensures.value

pub slice_bounds-from_utf8-start : goal.slice_bounds-from_utf8-start
slice_bounds-from_utf8-start c = let l = (left (goal.at.slice_bounds-from_utf8-start c).In-TextEnd).stops in omega (arith, open_within c.args.self.now l.left l.reached _ c.deref.ensures.value)

-- bytes that nothing completes are left
hopeless : (c : After-valid_up_to) → (s : StopsHeld c.args.self.now Stop.TextEnd) × ((c.args.self.now.state.scan.stop + c.valid_up_to.result ≡ byte_len s.read) × IsHopeless s.rest)
hopeless c =
    let s : StopsHeld c.args.self.now Stop.TextEnd = rw c.in-TextEnd.is at c.requires.stops in (
      s,
      hopeless_held c.args.self.now s _ c.deref.ensures.value c.valid_up_to.result (rw (← c.valid_up_to.ensures) at (tells_hopeless _ _ _ c.in-Err.ensures.cases.1 c.in-Err.ensures.fault
          (ap is_some (sym c.error_len.ensures) ∙ sym c.is_some.ensures ∙ c.if-is_some.true))),
    )

pub fail-requires-clause-within : goal.fail-requires-clause-within
fail-requires-clause-within c =
    let (s, (at, never)) = hopeless (goal.at.fail-requires-clause-within c).After-valid_up_to in
    omega (arith, (within_held c.args.self.now s.read s.rest s.spell _ (all_within s.read _ at)).0, ap length c.deref-in-Err.ensures.value)

pub fail-requires-clause-bytes : goal.fail-requires-clause-bytes
fail-requires-clause-bytes c =
    let (s, (at, never)) = hopeless (goal.at.fail-requires-clause-bytes c).After-valid_up_to in
    omega (arith, (within_held c.args.self.now s.read s.rest s.spell _ (all_within s.read _ at)).0, c.requires.room.fits)

pub fail-requires-clause-lines : goal.fail-requires-clause-lines
fail-requires-clause-lines c =
    let (s, (at, never)) = hopeless (goal.at.fail-requires-clause-lines c).After-valid_up_to in
    omega (arith, (within_held c.args.self.now s.read s.rest s.spell _ (all_within s.read _ at)).0, c.requires.room.fits, c.requires.room.few_lines)

-- the fault stands in what is held
refused_held : (c : In-Wrong) → c.in-Wrong.line_fault.place ≤ length c.args.self.now.held.items
refused_held c =
    let f = c.args.self.now in let s = refused c in let no = s.stops in
    (within_held f s.read s.rest s.spell _ (refused_within f.state.place s.read no.way no.c no.none _ no.fault)).0

pub fail-requires-in-Wrong-clause-within : goal.fail-requires-in-Wrong-clause-within
fail-requires-in-Wrong-clause-within c = omega (arith, refused_held (goal.at.fail-requires-in-Wrong-clause-within c).In-Wrong, ap length c.deref-in-Wrong.ensures.value)

pub fail-requires-in-Wrong-clause-bytes : goal.fail-requires-in-Wrong-clause-bytes
fail-requires-in-Wrong-clause-bytes c = omega (arith, refused_held (goal.at.fail-requires-in-Wrong-clause-bytes c).In-Wrong, c.requires.room.fits)

pub fail-requires-in-Wrong-clause-lines : goal.fail-requires-in-Wrong-clause-lines
fail-requires-in-Wrong-clause-lines c =
    omega (arith, refused_held (goal.at.fail-requires-in-Wrong-clause-lines c).In-Wrong, c.requires.room.fits, c.requires.room.few_lines)

pub returns-in-Err-clause-meets : goal.returns-in-Err-clause-meets
returns-in-Err-clause-meets c = let (s, (at, never)) = hopeless (goal.at.returns-in-Err-clause-meets c).After-valid_up_to in part_fails c.args.self.now _ c.args.before c.fail.result c.requires.not_ready _ s at never (fails_so c.args.self.now c.fail.new.self _ _ c.fail.result c.deref-in-Err.ensures.value c.fail.ensures)

pub returns-in_default-clause-meets : goal.returns-in_default-clause-meets
returns-in_default-clause-meets c =
    let f = c.args.self.now in let s = left (goal.at.returns-in_default-clause-meets c).In-TextEnd in
    let more : ¬ (IsHopeless s.rest) = elim c.in_default.branch [
      | in_default-via-in-Err+else-is_some w ↦ part_held f s _ c.deref.ensures.value (tells_part _ _ _ w.in-Err.ensures.cases.1 w.in-Err.ensures.fault (ap is_some (sym w.error_len.ensures) ∙ sym w.is_some.ensures ∙ w.if-is_some.false))
      | in_default-via-in_default w ↦ part_held f s _ c.deref.ensures.value (tells_ok _ (rw w.in_default.is at c.from_utf8.ensures.cases).1)
    ] in
    stays_open f c.args.before c.requires.within _ (omega (arith, c.len-in_default.ensures)) c.requires.not_ready (s, more)

pub returns-in-Wrong-clause-meets : goal.returns-in-Wrong-clause-meets
returns-in-Wrong-clause-meets c =
    held_refused c.args.self.now _ c.args.before c.fail-in-Wrong.result c.requires.not_ready _ (refused (goal.at.returns-in-Wrong-clause-meets c).In-Wrong)
    (fails_so c.args.self.now c.fail-in-Wrong.new.self _ _ c.fail-in-Wrong.result c.deref-in-Wrong.ensures.value c.fail-in-Wrong.ensures)

pub overflow_add-before : goal.overflow_add-before
overflow_add-before c = omega (arith, c.requires.within, c.requires.room.fits)

pub overflow_sub-result : goal.overflow_sub-result
overflow_sub-result c = omega (arith, c.requires.within, c.len.ensures, ap length c.truncate.ensures.items, length-take c.max.result c.args.self.now.held.items, c.max.ensures)

pub overflow_sub-result-in_default : goal.overflow_sub-result-in_default
overflow_sub-result-in_default c =
    omega (arith, c.len-in_default.ensures, c.requires.within)

pub overflow_add-place : goal.overflow_add-place
overflow_add-place c = let (s, (at, never)) = hopeless c in omega (arith, (within_held c.args.self.now s.read s.rest s.spell _ (all_within s.read _ at)).0, c.requires.room.fits)

pub returns-in-LineEnd-clause-ready : goal.returns-in-LineEnd-clause-ready
returns-in-LineEnd-clause-ready c = grind (arith, common_steps)

pub returns-in_default-clause-ready : goal.returns-in_default-clause-ready
returns-in_default-clause-ready c = grind arith
