-- What a finder over pieces is once bytes were taken up to a line's end, or the text has ended.
use Rattle.std.proofs.Common.{◌≡◌, ℕ, ◌+◌, ◌≤◌, true, false, Option, None, Some, Result, Ok, Err, List, [], ◌++◌, length, take, drop, inl, inr, ◌⊎◌, refl, sym, ap, ◌∙◌, subst, append-nil, length-append, arith}
use Rattle.std.proofs.lemmas.List.{length-take-le, take-append-drop, drop-drop, drop-take}
use Rattle.std.proofs.Math.Seq.{take-add, take-append_seam, drop-append_seam}
use Rattle.py_lines.specs.LogicalLine.{LogicalLine}
use Rattle.py_lines.specs.Lexed.{IsLexed}
use Rattle.py_lines.specs.Settled.{Decides}
use Rattle.py_lines.specs.ScannerState.{ScannerState, fed_of, GoesOnWith, TakesBytes, MeetsFault, EndsScan, EndsFaulty}
use Rattle.py_lines.specs.declared.fault.Fault.{Fault}
use Rattle.py_imports.specs.BindingValue.{BindingValue}
use Rattle.isort_find.specs.Settled.{DecidesFound}
use Rattle.isort_find.specs.Cursor.{CursorState, HasStopped}
use Rattle.isort_find.specs.Position.{phase_in, skip_in, ready_in}
use Rattle.isort_find.specs.Pieces.{PieceFinderState, piece_finder_state, options_for, fed_by, has_ready, HasReleased, IsBetweenLines, HasFoundIn, StopsAtFault, DecidesWithin, MeetsFaultIn, FinishesText, EndsInFault, EndsFeeding}
use Rattle.isort_find.specs.Private.CursorMoves.{cursor_before}
use Rattle.isort_find.specs.Private.PieceSteps.{IsNextStart, TriesReady, TakesLines, TakesNothing, TakesBytesOf, walker_of, with_walker}
use Rattle.isort_find.specs.Private.Walks.{WalkerState, with_fault}
use Rattle.isort_find.specs.declared.error.FindError.{FindError}
use Rattle.isort_find.specs.declared.pending.LineStart.{LineStart}
use Rattle.isort_find.specs.declared.walker.Position.{Position}
use Rattle.isort_find.specs.declared.walker.Position.TheVariants as position
use Rattle.isort_find.specs.declared.walker.Phase.{Phase}
use Rattle.isort_find.specs.declared.walker.Phase.TheVariants as phase
use Rattle.isort_find.specs.Private.KnownLaws.{AscentLaws, EachIsLexed, OneSettled, SettledLaws}
use Rattle.isort_find.proofs.Walks.NextLine.{nothing_at_end, stops_before, found_lexed, meets_lexical}
use Rattle.isort_find.proofs.Fed.Known.{next_start, given_of, true_or_false, none_or_some}
use Rattle.isort_find.proofs.Fed.LetGo.{BeginsLine, line_begun, begun_between, begun_fed, begun_held, begun_scanning, ended_gone}
use Rattle.isort_find.proofs.Fed.Settled.{all_undecided}
use Rattle.isort_find.proofs.Fed.Held.{knows_any, knows_top}
use Rattle.isort_find.proofs.Fed.TriedLines.{IsBadReady, tried_found, tried_so, tried_new, tried_ready, tried_bad, bad_decided, meets_open, stops_bad}

-- the scanner has gone on, and the lines released are the same
moved_on : (s t : ScannerState) (cursor : CursorState) (text : List ℕ) (skip : ℕ) (values : List BindingValue) (b : IsBetweenLines s cursor text skip values) → HasReleased t text b.after.lines → t.place ≡ s.place → IsBetweenLines t cursor text skip values
moved_on s t cursor text skip values b released place = record {
  after = record { lines = b.after.lines; before = b.after.before; part = b.after.part; given = given_of t text b.after.lines released; binds = b.after.binds; in_top = b.after.in_top; is_part = b.after.is_part; found = b.after.found };
  released = released;
  stands = moved b.stands;
}
  where
    moved : (skip ≡ 0) ⊎ (cursor.offset ≡ s.place) → (skip ≡ 0) ⊎ (cursor.offset ≡ t.place)
    moved (inl e) = inl e
    moved (inr e) = inr (e ∙ sym place)

-- bytes were taken, and the finder is between the same lines
pub taken_between : (old : PieceFinderState) (t : ScannerState) → BeginsLine old t → (s : ScannerState) (piece : List ℕ) (n : ℕ) → TakesBytes t piece n s → (text : List ℕ) (values : List BindingValue) → HasFoundIn old text values → GoesOnWith text (fed_by old) (take n piece) → IsBetweenLines s old.cursor text (skip_in old.position) values
taken_between old t b s piece n takes text values h goes =
    let between = begun_between old t b text values h in
    let lines = between.after.lines in
    let scanning = begun_scanning old t b text lines between.released in
    moved_on t s old.cursor text (skip_in old.position) values between (inl (takes.scans text lines scanning (subst (λ (p : ℕ). GoesOnWith text p (take n piece)) (begun_fed old t b) goes))) takes.place

taken_fed : (old : PieceFinderState) (t : ScannerState) → BeginsLine old t → (s : ScannerState) (piece : List ℕ) (n : ℕ) → TakesBytes t piece n s → fed_of s ≡ fed_by old + n
taken_fed old t b s piece n takes = let len = ap length takes.held in let fed = begun_fed old t b in omega (arith, fed, takes.place, len, length-append t.held (take n piece), length-take-le n piece takes.within)

-- bytes were taken up to a line's end or the piece's, and the line was tried
pub takes_line : SettledLaws → OneSettled → AscentLaws → (old : PieceFinderState) (t : ScannerState) → BeginsLine old t → (s : ScannerState) (piece : List ℕ) (n : ℕ) → TakesBytes t piece n s → (new : PieceFinderState) (result : Result (Unit {0}) FindError) → result ≡ Ok tt → TriesReady (line_begun old s) result new → TakesLines old piece n new
takes_line laws one ascent old t b s piece n takes new result ok tries =
    let skip = skip_in old.position in
    let so = tried_so s skip old.cursor new result ok tries in
    let ended : new.scanning.ended ≡ old.scanning.ended = ap (λ (x : ScannerState). x.ended) so.scanning ∙ takes.open_yet ∙ ended_gone old.scanning t b.scanner in
    let size : length new.scanning.held ≡ length t.held + n = ap (λ (x : ScannerState). length x.held) so.scanning ∙ ap length takes.held ∙ length-append t.held (take n piece) ∙ ap (λ k. length t.held + k) (length-take-le n piece takes.within) in
    let found : (text : List ℕ) (values : List BindingValue) → HasFoundIn old text values → GoesOnWith text (fed_by old) (take n piece) → HasFoundIn new text values = λ text values h goes. tried_found laws s skip old.cursor new text values result (taken_between old t b s piece n takes text values h goes) h.stopped tries in
    record {
      advances = record {
        within = takes.within;
        found = found;
        held = let k = begun_held old t b in omega (arith, size, k);
        fed = so.fed ∙ taken_fed old t b s piece n takes;
        cursor = so.cursor;
        open_yet = ended;
      };
      undecided = λ text values h goes none drained. all_undecided laws one ascent new.scanning new.position new.cursor text values (ended ∙ b.yet) so.fine drained (λ ready. lexical new so.scanning text values h goes ready) (found text values h goes);
      next_new = tried_new s skip old.cursor new result tries;
      some = λ zero. by_some (takes.some zero);
      no_fault = so.fine;
    }
  where
    lexical : (g : PieceFinderState) → g.scanning ≡ s → (text : List ℕ) (values : List BindingValue) → HasFoundIn old text values → GoesOnWith text (fed_by old) (take n piece) → g.scanning.ready ≡ None → (fault : Fault) → ¬ (Decides (take (fed_of g.scanning) text) fault)
    lexical g is text values h goes ready fault =
        let between = begun_between old t b text values h in
        let scanning = begun_scanning old t b text between.after.lines between.released in
        subst (λ (x : ScannerState). ¬ (Decides (take (fed_of x) text) fault)) (sym is) (takes.undecided text between.after.lines scanning (subst (λ (p : ℕ). GoesOnWith text p (take n piece)) (begun_fed old t b) goes) (ap (λ (x : ScannerState). x.ready) (sym is) ∙ ready) fault)

    by_some : (piece ≡ []) ⊎ ((u : LogicalLine) × (t.ready ≡ Some u)) → piece ≡ []
    by_some (inl nil) = nil
    by_some (inr u) = absurd (none_or_some _ u.0 b.none_ready u.1)

pub open_or_fault : (s : Position) (fault : Fault) → phase_in s ≡ phase.Open → s ≡ position.Fault fault → ⊥
open_or_fault s fault h k = let both : phase_in s ≡ phase.Fault fault = ap phase_in k in cc

pub end_or_fault : (s : Position) (fault : Fault) → phase_in s ≡ phase.End → s ≡ position.Fault fault → ⊥
end_or_fault s fault h k = let both : phase_in s ≡ phase.Fault fault = ap phase_in k in cc

pub end_not_ready : (s : Position) → phase_in s ≡ phase.End → ready_in s ≡ false
end_not_ready (position.End passed) at = refl
end_not_ready other at = absurd cc

pub open_or_end : (p : Phase) → p ≡ phase.Open → p ≡ phase.End → ⊥
open_or_end p h k = cc

cut_goes : (xs ys zs : List ℕ) → take (length xs + length ys) zs ≡ xs ++ ys → (take (length xs) zs ≡ xs) × (take (length ys) (drop (length xs) zs) ≡ ys)
cut_goes xs ys zs h =
    let a = length xs in
    let b = length ys in
    let whole = ap length (take-append-drop (a + b) zs) in
    let sized = ap length h in
    let long : a ≤ length zs = omega (arith, whole, sized, length-append (take (a + b) zs) (drop (a + b) zs), length-append xs ys) in
    let size : length (take a zs) ≡ a = length-take-le a zs long in (
      sym (take-append_seam (take a zs) (take b (drop a zs))) ∙ ap (λ k. take k (take a zs ++ take b (drop a zs))) size ∙ ap (take a) (sym (take-add a b zs) ∙ h) ∙ take-append_seam xs ys,
      sym (drop-take a b zs) ∙ ap (drop a) h ∙ drop-append_seam xs ys,
    )

-- a text that goes on with a piece goes on with its first bytes, and then with the others
pub goes_on_with_both : (text : List ℕ) (place : ℕ) (piece : List ℕ) (n : ℕ) → n ≤ length piece → GoesOnWith text place piece → GoesOnWith text place (take n piece) × GoesOnWith text (place + n) (drop n piece)
goes_on_with_both text place piece n within goes =
    let whole = take-append-drop n piece in
    let size : length piece ≡ length (take n piece) + length (drop n piece) = ap length (sym whole) ∙ length-append (take n piece) (drop n piece) in
    let first : length (take n piece) ≡ n = length-take-le n piece within in
    let cut = cut_goes (take n piece) (drop n piece) (drop place text) (ap (λ k. take k (drop place text)) (sym size) ∙ goes ∙ sym whole) in
    let there : drop (length (take n piece)) (drop place text) ≡ drop (place + n) text = ap (λ k. drop k (drop place text)) first ∙ drop-drop n place text in
    (cut.0, ap (λ t. take (length (drop n piece)) t) (sym there) ∙ cut.1)

-- bytes that decide the fault of a text have the same lines before it
known_lexed : SettledLaws → EachIsLexed → (text : List ℕ) (n : ℕ) (lines : List LogicalLine) (fault : Fault) → Decides (take n text) fault → IsLexed text lines (Some fault) → IsLexed (take n text) lines (Some fault)
known_lexed laws each text n lines fault decides lexed =
    let known = take n text in
    let has = each known in
    let end : has.1 ≡ Some fault = laws.fault known [] fault has.0 has.1 decides (subst (λ (t : List ℕ). IsLexed t has.0 has.1) (sym (append-nil known)) has.2) in
    let now : IsLexed known has.0 (Some fault) = subst (λ (e : Option Fault). IsLexed known has.0 e) end has.2 in
    let then : IsLexed text has.0 (Some fault) = subst (λ (t : List ℕ). IsLexed t has.0 (Some fault)) (take-append-drop n text) (laws.all known (drop n text) fault has.0 decides now) in
    let same = laws.ends.laws.one_lexing text has.0 lines (Some fault) (Some fault) then lexed in
    subst (λ (ls : List LogicalLine). IsLexed known ls (Some fault)) same now

-- the finder has met this fault where its scanner stands
abbrev pub failed : PieceFinderState → ScannerState → LineStart → Fault → PieceFinderState
failed f s start fault = with_walker (line_begun f s) (with_fault (walker_of (line_begun f s)) start fault)

-- so it is once its walker has met the fault
pub failed_is : (old : PieceFinderState) (w new : WalkerState) (t s : ScannerState) (start : LineStart) (fault : Fault) → piece_finder_state t w.position w.cursor ≡ line_begun old t → new ≡ with_fault w start fault → piece_finder_state s new.position new.cursor ≡ failed old s start fault
failed_is old w new t s start fault is kept = ap (λ (x : WalkerState). piece_finder_state s x.position x.cursor) kept ∙ ap (λ (f : PieceFinderState). piece_finder_state s (position.Fault fault) (cursor_before f.cursor start)) is

stops_failed : (old : PieceFinderState) (s : ScannerState) (start : LineStart) (fault : Fault) → phase_in old.position ≡ phase.Open → StopsAtFault old fault (failed old s start fault)
stops_failed old s start fault opened = record { kept = refl; met = meets_open old fault (failed old s start fault) opened; counts = record { options = refl; given = refl } }

-- what is found up to a lexical fault, which the finder then has
lexical_found : SettledLaws → (t s : ScannerState) (cursor : CursorState) (text : List ℕ) (skip : ℕ) (values : List BindingValue) (start : LineStart) (fault : Fault) (b : IsBetweenLines t cursor text skip values) → IsNextStart t start → IsLexed text b.after.lines (Some fault) → HasStopped text cursor values → HasFoundIn (piece_finder_state s (position.Fault fault) (cursor_before cursor start)) text values
lexical_found laws t s cursor text skip values start fault b here lexed stopped =
    let is : start ≡ next_start t = (λ i. record { offset = here.offset i; line = here.line i }) in
    subst (λ (x : LineStart). HasFoundIn (piece_finder_state s (position.Fault fault) (cursor_before cursor x)) text values) (sym is) (record {
      stopped = stops_before cursor (next_start t) b.after (nothing_at_end laws.ends.laws b.after (Some fault) lexed) stopped;
      reached = meets_lexical laws.ends.laws b.after fault lexed;
    })

-- the scanner meets a fault
pub meets_fault : SettledLaws → EachIsLexed → (old : PieceFinderState) (t : ScannerState) → BeginsLine old t → (s : ScannerState) (piece : List ℕ) (fault : Fault) (start : LineStart) → IsNextStart t start → MeetsFault t piece fault s → MeetsFaultIn old piece fault (failed old s start fault)
meets_fault laws each old t b s piece fault start here meets = record {
  stops = stops_failed old s start fault b.opened;
  none_ready = b.none;
  fed = let start = begun_fed old t b in let bound = meets.fed in omega (arith, start, bound);
  open_yet = meets.open_yet ∙ ended_gone old.scanning t b.scanner;
  found = λ text values h goes. lexical_found laws t s old.cursor text (skip_in old.position) values start fault (begun_between old t b text values h) here (met text values h goes).3 h.stopped;
  decided = λ opened text values h goes. decided text values h goes;
}
  where
    met : (text : List ℕ) (values : List BindingValue) (h : HasFoundIn old text values) → GoesOnWith text (fed_by old) piece → (n : ℕ) × (n ≤ length piece) × Decides (take (fed_of t + n) text) fault × IsLexed text (begun_between old t b text values h).after.lines (Some fault)
    met text values h goes =
        let r = begun_between old t b text values h in
        meets.decided text r.after.lines (begun_scanning old t b text r.after.lines r.released) (subst (λ (p : ℕ). GoesOnWith text p piece) (begun_fed old t b) goes)

    decided : (text : List ℕ) (values : List BindingValue) → HasFoundIn old text values → GoesOnWith text (fed_by old) piece → DecidesWithin old piece text fault
    decided text values h goes =
        let q = met text values h goes in
        let r = (begun_between old t b text values h).after in
        let known = take (fed_of t + q.0) text in
        let lexed = known_lexed laws each text (fed_of t + q.0) r.lines fault q.2 q.3 in
        let n = nothing_at_end laws.ends.laws r (Some fault) q.3 in
        let now : DecidesFound known (options_for old) fault = record { values = values; found = found_lexed known (options_for old) r.lines r.before values (Some fault) lexed r.in_top r.binds n.found; stays = inl q.2 } in
        (q.0, q.1, subst (λ (p : ℕ). DecidesFound (take (p + q.0) text) (options_for old) fault) (sym (begun_fed old t b)) now)

-- the line that got ready is bad
meets_bad_line : SettledLaws → (old : PieceFinderState) (t : ScannerState) → BeginsLine old t → (s : ScannerState) (piece : List ℕ) (n : ℕ) → TakesBytes t piece n s → (new : PieceFinderState) (result : Result (Unit {0}) FindError) (fault : Fault) → TriesReady (line_begun old s) result new → IsBadReady (line_begun old s) fault new → MeetsFaultIn old piece fault new
meets_bad_line laws old t b s piece n takes new result fault tries bad = record {
  stops = stops_bad old (line_begun old s) new fault b.opened refl bad;
  none_ready = b.none;
  fed = let is = ap fed_by bad.kept in let fed = taken_fed old t b s piece n takes in let within = takes.within in omega (arith, is, fed, within);
  open_yet = ap (λ (f : PieceFinderState). f.scanning.ended) bad.kept ∙ takes.open_yet ∙ ended_gone old.scanning t b.scanner;
  found = λ text values h goes. tried_found laws s (skip_in old.position) old.cursor new text values result (taken_between old t b s piece n takes text values h (goes_on_with_both text (fed_by old) piece n takes.within goes).0) h.stopped tries;
  decided = λ opened text values h goes.
      let between = taken_between old t b s piece n takes text values h (goes_on_with_both text (fed_by old) piece n takes.within goes).0 in
      let now = bad_decided laws (line_begun old s) new text (skip_in old.position) values fault (takes.open_yet ∙ ended_gone old.scanning t b.scanner ∙ b.yet) bad between in
      (n, takes.within, subst (λ (p : ℕ). DecidesFound (take p text) (options_for old) fault) (taken_fed old t b s piece n takes) now);
}

pub tries_bad : SettledLaws → (old : PieceFinderState) (t : ScannerState) → BeginsLine old t → (s : ScannerState) (piece : List ℕ) (n : ℕ) → TakesBytes t piece n s → (new : PieceFinderState) (result : Result (Unit {0}) FindError) (e : FindError) (answer : Result ℕ FindError) → result ≡ Err e → answer ≡ Err e → TriesReady (line_begun old s) result new → TakesBytesOf old piece answer new
tries_bad laws old t b s piece n takes new result e answer err is tries =
    let bad = tried_bad (line_begun old s) new result e err tries in
    subst (λ (r : Result ℕ FindError). TakesBytesOf old piece r new) (sym (is ∙ ap Err bad.is)) (meets_bad_line laws old t b s piece n takes new result bad.fault tries bad.bad)

-- the line was let go, and nothing else changed
pub takes_no_byte : SettledLaws → OneSettled → AscentLaws → (old : PieceFinderState) (t : ScannerState) → BeginsLine old t → TakesNothing old (line_begun old t)
takes_no_byte laws one ascent old t b =
    let g = line_begun old t in
    record {
      keeps = record {
        unfed = record {
          fed = sym (begun_fed old t b);
          open_yet = ended_gone old.scanning t b.scanner;
          no_fault = λ fine fault is. open_or_fault g.position fault refl is;
          stays = λ top. absurd (open_or_end _ b.opened top);
        };
        cursor = refl;
        was_open = b.opened;
        is_open = refl;
        ready = sym b.none;
        scanning = λ ready. absurd (true_or_false _ b.none ready);
        texts = λ text values h. knows_any laws one ascent g text values (λ yet none. b.none_ready) (λ over ready. absurd (true_or_false _ refl ready)) (record { stopped = h.stopped; reached = (begun_between old t b text values h, b.none_ready) });
      };
      none_ready = b.none_ready;
      held = begun_held old t b;
    }

-- the scanner's text has ended
ended_between : (old : PieceFinderState) (t : ScannerState) → BeginsLine old t → (s : ScannerState) → EndsScan t s → (text : List ℕ) (values : List BindingValue) → HasFoundIn old text values → length text ≡ fed_by old → IsBetweenLines s old.cursor text (skip_in old.position) values
ended_between old t b s ends text values h all =
    let between = begun_between old t b text values h in
    let lines = between.after.lines in
    moved_on t s old.cursor text (skip_in old.position) values between (inr (ends.scans text lines (begun_scanning old t b text lines between.released) (all ∙ begun_fed old t b))) ends.place

ended_fed : (old : PieceFinderState) (t : ScannerState) → BeginsLine old t → (s : ScannerState) → EndsScan t s → fed_of s ≡ fed_by old
ended_fed old t b s ends = let held = ap length ends.held in let start = begun_fed old t b in omega (arith, ends.place, held, start)

-- the text has ended, and its last line was tried
ends_line : SettledLaws → OneSettled → AscentLaws → (old : PieceFinderState) (t : ScannerState) → BeginsLine old t → (s : ScannerState) → EndsScan t s → (new : PieceFinderState) (result : Result (Unit {0}) FindError) → result ≡ Ok tt → TriesReady (line_begun old s) result new → FinishesText old new
ends_line laws one ascent old t b s ends new result ok tries =
    let so = tried_so s (skip_in old.position) old.cursor new result ok tries in
    let found : (text : List ℕ) (values : List BindingValue) → HasFoundIn old text values → length text ≡ fed_by old → HasFoundIn new text values = λ text values h all. tried_found laws s (skip_in old.position) old.cursor new text values result (ended_between old t b s ends text values h all) h.stopped tries in
    let over : new.scanning.ended ≡ true = ap (λ (x : ScannerState). x.ended) so.scanning ∙ ends.ended in
    let line : has_ready new ≡ true → (line : LogicalLine) × (new.scanning.ready ≡ Some line) = λ ready. let is = tried_ready (line_begun old s) new result refl tries ready in (is.0, ap (λ (x : ScannerState). x.ready) so.scanning ∙ is.1) in
    record {
      ended = inl over;
      was_no_fault = λ fault at. open_or_fault old.position fault b.opened at;
      no_fault = so.fine;
      fed = so.fed ∙ ended_fed old t b s ends;
      cursor = so.cursor;
      next_new = tried_new s (skip_in old.position) old.cursor new result tries;
      texts = λ text values h all. knows_any laws one ascent new text values (λ yet none. absurd (true_or_false _ yet over)) (λ ended ready. line ready) (found text values h all);
    }

ends_bad : SettledLaws → (old : PieceFinderState) (t : ScannerState) → BeginsLine old t → (s : ScannerState) → EndsScan t s → (new : PieceFinderState) (result : Result (Unit {0}) FindError) (e : FindError) → result ≡ Err e → TriesReady (line_begun old s) result new → EndsFeeding old (Err e) new
ends_bad laws old t b s ends new result e err tries =
    let bad = tried_bad (line_begun old s) new result e err tries in
    subst (λ (x : FindError). EndsFeeding old (Err x) new) (sym bad.is) (record {
      stops = stops_bad old (line_begun old s) new bad.fault b.opened refl bad.bad;
      fed = ap fed_by bad.bad.kept ∙ ended_fed old t b s ends;
      found = λ text values h all. tried_found laws s (skip_in old.position) old.cursor new text values result (ended_between old t b s ends text values h all) h.stopped tries;
    })

pub ends_tried : SettledLaws → OneSettled → AscentLaws → (old : PieceFinderState) (t : ScannerState) → BeginsLine old t → (s : ScannerState) → EndsScan t s → (new : PieceFinderState) (result : Result (Unit {0}) FindError) → TriesReady (line_begun old s) result new → EndsFeeding old result new
ends_tried laws one ascent old t b s ends new (Ok done) tries = ends_line laws one ascent old t b s ends new (Ok done) refl tries
ends_tried laws one ascent old t b s ends new (Err e) tries = ends_bad laws old t b s ends new (Err e) e refl tries

-- the text may not end so
pub ends_lexical : SettledLaws → (old : PieceFinderState) (t : ScannerState) → BeginsLine old t → (s : ScannerState) (fault : Fault) (start : LineStart) → IsNextStart t start → EndsFaulty t fault s → EndsInFault old fault (failed old s start fault)
ends_lexical laws old t b s fault start here ends = record {
  stops = stops_failed old s start fault b.opened;
  fed = ends.fed ∙ sym (begun_fed old t b);
  found = λ text values h all.
      let r = begun_between old t b text values h in
      lexical_found laws t s old.cursor text (skip_in old.position) values start fault r here (ends.all text r.after.lines (begun_scanning old t b text r.after.lines r.released) (all ∙ begun_fed old t b)) h.stopped;
}

-- the text ends after the top
ends_top_at : SettledLaws → AscentLaws → (s : ScannerState) (at : Position) (cursor : CursorState) → phase_in at ≡ phase.End → FinishesText (piece_finder_state s at cursor) (piece_finder_state s at cursor)
ends_top_at laws ascent s (position.End passed) cursor top = record {
  ended = inr refl;
  was_no_fault = λ fault is. end_or_fault (position.End passed) fault refl is;
  no_fault = λ fault is. end_or_fault (position.End passed) fault refl is;
  fed = refl;
  cursor = refl;
  next_new = tt;
  texts = λ text values h all. knows_top laws ascent s passed cursor text values h;
}
ends_top_at laws ascent s other cursor top = absurd cc

pub ends_after_top : SettledLaws → AscentLaws → (f : PieceFinderState) → phase_in f.position ≡ phase.End → FinishesText f f
ends_after_top laws ascent f top = ends_top_at laws ascent f.scanning f.position f.cursor top
