-- What a finder over pieces is once bytes were taken line by line.
use Rattle.std.proofs.Common.{◌≡◌, ℕ, ◌+◌, ◌-◌, ◌*◌, ◌<◌, ◌≤◌, Bool, true, false, nat_lt, zero, suc, Option, None, Some, Ok, List, [], ◌++◌, length, take, drop, inl, inr, ◌⊎◌, refl, sym, ap, ◌∙◌, subst, length-append, arith}
use Rattle.std.proofs.lemmas.Bool.{ltb-true}
use Rattle.std.proofs.Math.Seq.{take-add, take-append_seam}
use Rattle.std.proofs.lemmas.List.{length-take-le, length-drop, drop-take}
use Rattle.py_lines.specs.LogicalLine.{LogicalLine}
use Rattle.py_lines.specs.ScannerState.{ScannerState, GoesOnWith, ready_lines}
use Rattle.py_lines.specs.declared.fault.Fault.{Fault}
use Rattle.py_imports.specs.BindingValue.{BindingValue}
use Rattle.isort_find.specs.Settled.{DecidesFound}
use Rattle.isort_find.specs.Cursor.{CursorState}
use Rattle.isort_find.specs.Position.{phase_in, ready_in, skip_in}
use Rattle.isort_find.specs.Pieces.{PieceFinderState, piece_finder_state, options_for, fed_by, has_ready, HasFoundIn, PieceFinderRunsOut, MeetsFaultIn}
use Rattle.isort_find.specs.Private.PieceSteps.{Advances, IsToGoOn, IsToStop, TakesLineOf, TakesLines, TakesNothing}
use Rattle.isort_find.specs.declared.options.FindOptions.{FindOptions}
use Rattle.isort_find.specs.declared.pending.LineStart.{LineStart}
use Rattle.isort_find.specs.declared.walker.Position.{Position}
use Rattle.isort_find.specs.declared.walker.Position.TheVariants as position
use Rattle.isort_find.specs.declared.walker.Phase.TheVariants as phase
use Rattle.isort_find.proofs.Fed.Known.{true_or_false, none_or_some}
use Rattle.isort_find.proofs.Fed.LetGo.{fed_open}
use Rattle.isort_find.proofs.Fed.OneLine.{goes_on_with_both, open_or_fault, open_or_end}
use Rattle.isort_find.proofs.Fed.TriedLines.{meets_open}

-- the text goes on with the bytes taken first, and then with those taken next
pub goes_then : (text : List ℕ) (place : ℕ) (piece : List ℕ) (t n : ℕ) → t ≤ length piece → n ≤ length (drop t piece) → GoesOnWith text place (take (t + n) piece) → GoesOnWith text place (take t piece) × GoesOnWith text (place + t) (take n (drop t piece))
goes_then text place piece t n first second goes =
    let split : take (t + n) piece ≡ take t piece ++ take n (drop t piece) = take-add t n piece in
    let size = length-take-le t piece first in
    let len = ap length split in
    let within : t ≤ length (take (t + n) piece) = omega (arith, len, size, length-append (take t piece) (take n (drop t piece))) in
    let both = goes_on_with_both text place (take (t + n) piece) t within goes in (
      subst (λ (bytes : List ℕ). GoesOnWith text place bytes) (ap (take t) split ∙ ap (λ k. take k (take t piece ++ take n (drop t piece))) (sym size) ∙ take-append_seam (take t piece) (take n (drop t piece))) both.0,
      subst (λ (bytes : List ℕ). GoesOnWith text (place + t) bytes) (drop-take t n piece) both.1,
    )

-- the same, of a finder that has taken the first bytes
goes_both : (old mid : PieceFinderState) (piece : List ℕ) (t n : ℕ) → Advances old piece t mid → n ≤ length (drop t piece) → (text : List ℕ) → GoesOnWith text (fed_by old) (take (t + n) piece) → GoesOnWith text (fed_by old) (take t piece) × GoesOnWith text (fed_by mid) (take n (drop t piece))
goes_both old mid piece t n first within text whole =
    let both = goes_then text (fed_by old) piece t n first.within within whole in
    (both.0, subst (λ (p : ℕ). GoesOnWith text p (take n (drop t piece))) (sym first.fed) both.1)

-- nothing was taken yet
pub advances_none : (f : PieceFinderState) (piece : List ℕ) → Advances f piece 0 f
advances_none f piece = record { within = omega arith; found = λ text values h goes. h; held = omega arith; fed = omega arith; cursor = refl; open_yet = refl }

-- bytes were taken, and then more
pub advances_more : (old mid new : PieceFinderState) (piece : List ℕ) (t n : ℕ) → Advances old piece t mid → Advances mid (drop t piece) n new → Advances old piece (t + n) new
advances_more old mid new piece t n first next = record {
  within = let k = first.within in let m = next.within in omega (arith, length-drop t piece, k, m);
  found = λ text values h whole. let g = goes_both old mid piece t n first next.within text whole in next.found text values (first.found text values h g.0) g.1;
  held = let k = first.held in let m = next.held in omega (arith, k, m);
  fed = next.fed ∙ ap (λ k. k + n) first.fed ∙ omega arith;
  cursor = next.cursor ∙ first.cursor;
  open_yet = next.open_yet ∙ first.open_yet;
}

-- the same, where a line was read last
pub takes_more : (old mid new : PieceFinderState) (piece : List ℕ) (t n : ℕ) → Advances old piece t mid → TakesLines mid (drop t piece) n new → TakesLines old piece (t + n) new
takes_more old mid new piece t n first next =
    let goes = goes_both old mid piece t n first next.advances.within in
    record {
      advances = advances_more old mid new piece t n first next.advances;
      undecided = λ text values h whole none drained. let g = goes text whole in next.undecided text values (first.found text values h g.0) g.1 none drained;
      next_new = next.next_new;
      some = λ none_taken. let none : t ≡ 0 = omega (arith, none_taken) in subst (λ (k : ℕ). drop k piece ≡ []) none (next.some (omega (arith, none_taken)));
      no_fault = next.no_fault;
    }

-- bytes were taken, and then a fault was met
pub fault_after : (old mid new : PieceFinderState) (piece : List ℕ) (t : ℕ) (fault : Fault) → phase_in old.position ≡ phase.Open → has_ready old ≡ false → phase_in mid.position ≡ phase.Open → Advances old piece t mid → MeetsFaultIn mid (drop t piece) fault new → MeetsFaultIn old piece fault new
fault_after old mid new piece t fault opened none going first next =
    let goes : (text : List ℕ) → GoesOnWith text (fed_by old) piece → GoesOnWith text (fed_by old) (take t piece) × GoesOnWith text (fed_by mid) (drop t piece) = λ text whole. let both = goes_on_with_both text (fed_by old) piece t first.within whole in (both.0, subst (λ (p : ℕ). GoesOnWith text p (drop t piece)) (sym first.fed) both.1) in
    let options : options_for mid ≡ options_for old = ap (λ (c : CursorState). c.options) first.cursor in
    record {
      stops = record { kept = next.stops.kept; met = meets_open old fault new opened; counts = record { options = next.stops.counts.options ∙ options; given = next.stops.counts.given ∙ ap (λ (c : CursorState). c.given) first.cursor } };
      none_ready = none;
      fed = let k = first.fed in let m = next.fed in let within = first.within in omega (arith, k, m, within, length-drop t piece);
      open_yet = next.open_yet ∙ first.open_yet;
      found = λ text values h whole. let g = goes text whole in next.found text values (first.found text values h g.0) g.1;
      decided = λ was text values h whole.
          let g = goes text whole in
          let d = next.decided going text values (first.found text values h g.0) g.1 in
          let size = length-drop t piece in
          let place : fed_by mid + d.0 ≡ fed_by old + (t + d.0) = ap (λ k. k + d.0) first.fed ∙ omega arith in
          (t + d.0, (let k = first.within in let m = d.1 in omega (arith, size, k, m)), subst (λ (o : FindOptions). DecidesFound (take (fed_by old + (t + d.0)) text) o fault) options (subst (λ (p : ℕ). DecidesFound (take p text) (options_for mid) fault) place d.2));
    }

-- how much is left to take of a piece with so many bytes left: a line that gets ready, or is let go, is a step where no byte is taken
abbrev pub left_to_take : ℕ → ScannerState → ℕ
left_to_take rest s = rest * 4 + length s.held * 2 + (1 - length (ready_lines s.ready))

-- it falls where lines are passed over, and then bytes are taken
takes_fewer : (old mid new : ScannerState) (rest left k m : ℕ) → left + (k + m) ≡ rest → length mid.held ≤ length old.held + k
    → ((line : LogicalLine) → old.ready ≡ Some line → length mid.held < length old.held + k) → length new.held ≤ length mid.held + m
    → (m ≡ 0 → (line : LogicalLine) × (new.ready ≡ Some line)) → left_to_take left new < left_to_take rest old
takes_fewer old mid new rest left k m size held gone more ready = by (k + m) refl old.ready refl
  where
    by : (n : ℕ) → k + m ≡ n → (r : Option LogicalLine) → old.ready ≡ r → left_to_take left new < left_to_take rest old
    by (suc n) some r is = omega (arith, some, size, held, more)
    by zero none None is = omega (arith, none, size, held, more, ap (λ x. length (ready_lines x)) is, ap (λ x. length (ready_lines x)) (ready (omega (arith, none))).1)
    by zero none (Some line) is = omega (arith, none, size, gone line is, more, ap (λ x. length (ready_lines x)) (ready (omega (arith, none))).1)

-- it falls too where a line was let go at once, whether bytes were taken or not
lets_fewer : (old mid new : ScannerState) (rest left k m : ℕ) → left + (k + m) ≡ rest → length mid.held ≤ length old.held + k
    → length new.held < length mid.held + m → left_to_take left new < left_to_take rest old
lets_fewer old mid new rest left k m size held fewer = omega (arith, size, held, fewer)

-- what was found with a line is found, whether it was let go at once or not
pub line_advances : (mid new : PieceFinderState) (piece : List ℕ) (m : ℕ) → TakesLineOf mid piece (Ok m) new → Advances mid piece m new
line_advances mid new piece m (inl takes) = takes.advances
line_advances mid new piece m (inr passes) = passes.advances

-- no byte was taken only where there is none
line_some : (mid new : PieceFinderState) (piece : List ℕ) (m : ℕ) → TakesLineOf mid piece (Ok m) new → m ≡ 0 → piece ≡ []
line_some mid new piece m (inl takes) = takes.some
line_some mid new piece m (inr passes) = passes.some

-- where the finder goes on, less is left to take
pub line_fewer : (old : ScannerState) (mid new : PieceFinderState) (piece : List ℕ) (rest left at k m : ℕ) → left + (k + m) ≡ rest
    → length mid.scanning.held ≤ length old.held + k → ((line : LogicalLine) → old.ready ≡ Some line
    → length mid.scanning.held < length old.held + k) → phase_in mid.position ≡ phase.Open → TakesLineOf mid (drop at piece) (Ok m) new
    → IsToGoOn new (nat_lt (at + m) (length piece)) mid.scanning.place → left_to_take left new.scanning < left_to_take rest old
line_fewer old mid new piece rest left at k m size held gone opened line goes = by goes.either
  where
    next : Advances mid (drop at piece) m new
    next = line_advances mid new (drop at piece) m line

    by : (nat_lt (at + m) (length piece) ≡ true) ⊎ (mid.scanning.place < new.scanning.place)
        ⊎ ((line : LogicalLine) × (new.scanning.ready ≡ Some line)) → left_to_take left new.scanning < left_to_take rest old
    by (inl more) = takes_fewer old mid.scanning new.scanning rest left k m size held gone next.held
        (λ none. absurd (omega (
          arith,
          ltb-true (at + m) (length piece) more,
          ap length (line_some mid new (drop at piece) m line none),
          length-drop at piece,
        )))
    by (inr (inl further)) = lets_fewer old mid.scanning new.scanning rest left k m size held
        (let fed = next.fed in omega (arith, further, fed, fed_open mid opened, fed_open new goes.is_open))
    by (inr (inr ready)) = takes_fewer old mid.scanning new.scanning rest left k m size held gone next.held (λ none. ready)

-- where the finder stops with nothing ready, the line wasn't let go at once
pub line_stops : (mid new : PieceFinderState) (piece : List ℕ) (m : ℕ) (more : Bool) → TakesLineOf mid piece (Ok m) new
    → (has_ready new ≡ false → IsToStop new more mid.scanning.place) → TakesLines mid piece m new
line_stops mid new piece m more (inl takes) stops = takes
line_stops mid new piece m more (inr passes) stops = absurd (by (stops (ap ready_in passes.between.position)))
  where
    by : IsToStop new more mid.scanning.place → ⊥
    by (inl over) = over (ap phase_in passes.between.position)
    by (inr none) = let stays = none.stays in omega (arith, stays, passes.further)

-- memory ran out, and the next line is left unread
abbrev pub lost : PieceFinderState → LineStart → PieceFinderState
lost f start = record f { position = position.Unread start (skip_in f.position) }

-- where no line is ready, the finder is between two
lost_found : (s : ScannerState) (at : Position) (cursor : CursorState) (start : LineStart) (text : List ℕ) (values : List BindingValue) → phase_in at ≡ phase.Open → s.ready ≡ None → HasFoundIn (piece_finder_state s at cursor) text values → HasFoundIn (piece_finder_state s (position.Unread start (skip_in at)) cursor) text values
lost_found s (position.Between skip) cursor start text values opened none h = record { stopped = h.stopped; reached = h.reached.0 }
lost_found s (position.Unread other skip) cursor start text values opened none h = record { stopped = h.stopped; reached = h.reached }
lost_found s (position.Within p) cursor start text values opened none h = absurd (none_or_some _ h.reached.line none h.reached.ready)
lost_found s (position.End passed) cursor start text values opened none h = absurd cc
lost_found s (position.Fault fault) cursor start text values opened none h = absurd cc

-- bytes were taken, and then memory ran out
pub lost_after : (old mid last : PieceFinderState) (piece : List ℕ) (t : ℕ) (start : LineStart) → (t ≡ 0 → ⊥) → Advances old piece t mid → TakesNothing mid last → TakesLines old piece t (lost last start)
lost_after old mid last piece t start some first nothing =
    let keeps = nothing.keeps in
    record {
      advances = record {
        within = first.within;
        found = λ text values h goes. lost_found last.scanning last.position last.cursor start text values keeps.is_open nothing.none_ready (keeps.texts text values (first.found text values h goes)).found;
        held = let k = first.held in let shorter = nothing.held in omega (arith, k, shorter);
        fed = sym (fed_open last keeps.is_open) ∙ keeps.unfed.fed ∙ first.fed;
        cursor = keeps.cursor ∙ first.cursor;
        open_yet = keeps.unfed.open_yet ∙ first.open_yet;
      };
      undecided = λ text values h goes none drained. absurd (true_or_false _ none refl);
      next_new = tt;
      some = λ none_taken. absurd (some none_taken);
      no_fault = λ fault at. cc;
    }

-- memory ran out before the first byte, after lines of no byte of the piece
keeps_none : (old mid last : PieceFinderState) (piece : List ℕ) → phase_in old.position ≡ phase.Open → has_ready old ≡ false → has_ready mid ≡ false → Advances old piece 0 mid → PieceFinderRunsOut mid last → PieceFinderRunsOut old last
keeps_none old mid last piece opened none none_mid first keeps =
    let found : (text : List ℕ) (values : List BindingValue) → HasFoundIn old text values → HasFoundIn mid text values = λ text values h. first.found text values h refl in
    record {
      unfed = record {
        fed = (let k = keeps.unfed.fed in let m = first.fed in omega (arith, k, m));
        open_yet = keeps.unfed.open_yet ∙ first.open_yet;
        no_fault = λ fine fault is. open_or_fault last.position fault keeps.is_open is;
        stays = λ top. absurd (open_or_end _ opened top);
      };
      cursor = keeps.cursor ∙ first.cursor;
      was_open = opened;
      is_open = keeps.is_open;
      ready = keeps.ready ∙ none_mid ∙ sym none;
      scanning = λ ready. absurd (true_or_false _ none ready);
      texts = λ text values h. keeps.texts text values (found text values h);
    }

pub keeps_after : (old mid last : PieceFinderState) (piece : List ℕ) (t : ℕ) → t ≡ 0 → phase_in old.position ≡ phase.Open → has_ready old ≡ false → has_ready mid ≡ false → Advances old piece t mid → TakesNothing mid last → TakesNothing old last
keeps_after old mid last piece t is opened none none_mid taken nothing =
    let first = subst (λ (k : ℕ). Advances old piece k mid) is taken in
    record { keeps = keeps_none old mid last piece opened none none_mid first nothing.keeps; none_ready = nothing.none_ready; held = let k = nothing.held in let m = first.held in omega (arith, k, m) }
