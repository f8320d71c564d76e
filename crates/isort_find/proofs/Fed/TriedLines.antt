-- What a finder over pieces is once the line that is ready was tried, or read.
use Rattle.std.proofs.Common.{◌≡◌, ℕ, true, false, Some, Result, Ok, Err, List, [], ◌∷◌, ◌++◌, map, take, inl, inr, refl, sym, ap, ◌∙◌, subst, append-nil, arith}
use Rattle.py_lines.specs.LogicalLine.{LogicalLine}
use Rattle.py_lines.specs.Lexed.{BeginsLexing}
use Rattle.py_lines.specs.ScannerState.{ScannerState, fed_of}
use Rattle.py_lines.specs.declared.fault.Fault.{Fault}
use Rattle.py_imports.specs.BindingValue.{BindingValue, binding_value}
use Rattle.py_imports.specs.Binds.{IsBadAt}
use Rattle.isort_find.specs.Found.{ends_top}
use Rattle.isort_find.specs.Settled.{DecidesFound}
use Rattle.isort_find.specs.Cursor.{CursorState, HasStopped}
use Rattle.isort_find.specs.Pending.{pending_after}
use Rattle.isort_find.specs.Position.{phase_in, skip_in}
use Rattle.isort_find.specs.Pieces.{PieceFinderState, piece_finder_state, options_for, fed_by, has_ready, HasNoFault, IsNextNew, AreKnown, IsBetweenLines, HasFoundIn, MeetsAt, StopsAtFault}
use Rattle.isort_find.specs.Private.LineSteps.{Judges, Trial, TurnsOut, binding, ending, failing, lost}
use Rattle.isort_find.specs.Private.PieceSteps.{HasReady, HandsLine, TriesReady, walker_of, with_walker}
use Rattle.isort_find.specs.Private.Walks.{WalkerState, FollowsStep, FollowsTrial, LearnsLine, ReadsOrLosesLine, TriesLine, walker_state, with_fault}
use Rattle.isort_find.specs.declared.error.FindError.{FindError}
use Rattle.isort_find.specs.declared.error.FindError.TheVariants as error
use Rattle.isort_find.specs.declared.pending.LineStart.{LineStart}
use Rattle.isort_find.specs.declared.step.Step.{Step}
use Rattle.isort_find.specs.declared.step.Step.TheVariants as step
use Rattle.isort_find.specs.declared.walker.Position.{Position}
use Rattle.isort_find.specs.declared.walker.Position.TheVariants as position
use Rattle.isort_find.specs.declared.walker.Phase.{Phase}
use Rattle.isort_find.specs.declared.walker.Phase.TheVariants as phase
use Rattle.isort_find.specs.Private.KnownLaws.{SettledLaws}
use Rattle.isort_find.proofs.Walks.Inside.{inside_passed}
use Rattle.isort_find.proofs.Walks.NextLine.{IsAtLine, nothing_at_top, nothing_at_bad, stops_before, reads_bindings, reads_bad, found_at_bad}
use Rattle.isort_find.proofs.Fed.Known.{next_start, known_begins, ready_known, known_settled, true_or_false}

start_is : (s : ScannerState) (line : LogicalLine) (start : LineStart) → HasReady s line start → start ≡ next_start s
start_is s line start at = (λ i. record { offset = at.here.offset i; line = at.here.line i })

-- a line is ready where a finder is between lines
record IsAtHeld (s : ScannerState) (cursor : CursorState) (text : List ℕ) (skip : ℕ) (line : LogicalLine) (values : List BindingValue) : Type 0 where
  pub between : IsBetweenLines s cursor text skip values
  pub stopped : HasStopped text cursor values
  pub ready : s.ready ≡ Some line
  pub known : AreKnown s text (between.after.lines ++ line ∷ [])

abbrev at_line : (laws : SettledLaws) (s : ScannerState) (cursor : CursorState) (text : List ℕ) (skip : ℕ) (line : LogicalLine) (values : List BindingValue) → IsAtHeld s cursor text skip line values → IsAtLine text cursor.options (next_start s) skip line values
at_line laws s cursor text skip line values a = record { after = a.between.after; begins = known_begins laws s text (a.between.after.lines ++ line ∷ []) a.known }

-- what becomes of the finder, by what the line turns out to be
by_trial : SettledLaws → (s : ScannerState) (at : Position) (cursor : CursorState) (text : List ℕ) (line : LogicalLine) (values : List BindingValue) (t : Trial) (result : Result (Unit {0}) FindError) (w : WalkerState) → IsAtHeld s cursor text (skip_in at) line values → TurnsOut cursor.options line t → FollowsTrial (walker_state at cursor) (next_start s) t result w → HasFoundIn (piece_finder_state s w.position w.cursor) text values
by_trial laws s at cursor text line values (binding bs) result w a turns follows =
    let b = a.between.after in
    let looks = follows.1 in
    let first = pending_after (next_start s) (skip_in at) bs in
    let inside = reads_bindings laws.ends.laws text cursor.options (next_start s) (skip_in at) line values bs (at_line laws s cursor text (skip_in at) line values a) turns.0 turns.1 in
    subst (λ (x : WalkerState). HasFoundIn (piece_finder_state s x.position x.cursor) text values) (sym looks.same) (record {
      stopped = a.stopped;
      reached = record { lines = b.lines; line = line; released = a.between.released; ready = a.ready; known = a.known; inside = inside_passed text cursor b.lines line first looks.rest values a.stopped looks.passes inside };
    })
by_trial laws s at cursor text line values ending result w a turns follows =
    let b = a.between.after in
    subst (λ (x : WalkerState). HasFoundIn (piece_finder_state s x.position x.cursor) text values) (sym follows.1) (record {
      stopped = a.stopped;
      reached = record { lines = b.lines; line = line; before = b.before; known = a.known; given = b.given; binds = b.binds; in_top = b.in_top; ends = turns; found = (nothing_at_top laws.ends.laws b line (at_line laws s cursor text (skip_in at) line values a).begins turns).found };
    })
by_trial laws s at cursor text line values (failing fault) result w a turns follows =
    let here = at_line laws s cursor text (skip_in at) line values a in
    subst (λ (x : WalkerState). HasFoundIn (piece_finder_state s x.position x.cursor) text values) (sym follows.1) (record {
      stopped = stops_before cursor (next_start s) a.between.after (nothing_at_bad laws.ends.laws a.between.after line fault here.begins turns.0) a.stopped;
      reached = reads_bad laws.ends.laws text cursor.options (next_start s) (skip_in at) line values fault here turns.0 turns.1;
    })
by_trial laws s at cursor text line values lost result w a turns follows = subst (λ (x : WalkerState). HasFoundIn (piece_finder_state s x.position x.cursor) text values) (sym follows.1) (record { stopped = a.stopped; reached = a.between })

-- the line that is ready was tried
pub held_found : SettledLaws → (s : ScannerState) (at : Position) (cursor : CursorState) (new : PieceFinderState) (text : List ℕ) (values : List BindingValue) (result : Result (Unit {0}) FindError) → IsBetweenLines s cursor text (skip_in at) values → HasStopped text cursor values → HandsLine LearnsLine (piece_finder_state s at cursor) result new → HasFoundIn new text values
held_found laws s at cursor new text values result b stopped h =
    let a : IsAtHeld s cursor text (skip_in at) h.line values = record { between = b; stopped = stopped; ready = h.at.ready; known = ready_known s text b.after.lines h.line b.released h.at.ready h.at.some_text } in
    subst (λ (f : PieceFinderState). HasFoundIn f text values) (sym h.same) (by_trial laws s at cursor text h.line values h.does.trial result h.walker a h.does.turns (subst (λ (x : LineStart). FollowsTrial (walker_state at cursor) x h.does.trial result h.walker) (start_is s h.line h.start h.at) h.does.follows))

learned : (f new : PieceFinderState) (result : Result (Unit {0}) FindError) → HandsLine TriesLine f result new → HandsLine LearnsLine f result new
learned f new result h = record { line = h.line; start = h.start; walker = h.walker; at = h.at; does = h.does.learns; same = h.same }

-- the same, if one is
pub tried_found : SettledLaws → (s : ScannerState) (skip : ℕ) (cursor : CursorState) (new : PieceFinderState) (text : List ℕ) (values : List BindingValue) (result : Result (Unit {0}) FindError) → IsBetweenLines s cursor text skip values → HasStopped text cursor values → TriesReady (piece_finder_state s (position.Between skip) cursor) result new → HasFoundIn new text values
tried_found laws s skip cursor new text values result b stopped (inl none) = subst (λ (f : PieceFinderState). HasFoundIn f text values) (sym none.2) (record { stopped = stopped; reached = (b, none.0) })
tried_found laws s skip cursor new text values result b stopped (inr h) = held_found laws s (position.Between skip) cursor new text values result b stopped (learned _ new result h)

-- what stays where a line is tried without a fault
pub record TriedSo (f new : PieceFinderState) : Type 0 where
  pub scanning : new.scanning ≡ f.scanning
  pub cursor : new.cursor ≡ f.cursor
  pub fine : HasNoFault new
  pub fed : fed_by new ≡ fed_of f.scanning

pub not_err : (e : FindError) (r : Result (Unit {0}) FindError) → r ≡ Ok tt → r ≡ Err e → ⊥
not_err e r h k = cc

pub trial_so : (s : ScannerState) (at : Position) (cursor : CursorState) (start : LineStart) (t : Trial) (result : Result (Unit {0}) FindError) (w : WalkerState) → result ≡ Ok tt → FollowsTrial (walker_state at cursor) start t result w → TriedSo (piece_finder_state s at cursor) (piece_finder_state s w.position w.cursor)
trial_so s at cursor start (binding bs) result w ok follows = subst (λ (x : WalkerState). TriedSo (piece_finder_state s at cursor) (piece_finder_state s x.position x.cursor)) (sym follows.1.same) (record { scanning = refl; cursor = refl; fine = λ fault e. cc; fed = refl })
trial_so s at cursor start ending result w ok follows = subst (λ (x : WalkerState). TriedSo (piece_finder_state s at cursor) (piece_finder_state s x.position x.cursor)) (sym follows.1) (record { scanning = refl; cursor = refl; fine = λ fault e. cc; fed = omega arith })
trial_so s at cursor start (failing fault) result w ok follows = absurd (not_err (error.Fault fault) result ok follows.0)
trial_so s at cursor start lost result w ok follows = subst (λ (x : WalkerState). TriedSo (piece_finder_state s at cursor) (piece_finder_state s x.position x.cursor)) (sym follows.1) (record { scanning = refl; cursor = refl; fine = λ fault e. cc; fed = refl })

pub tried_so : (s : ScannerState) (skip : ℕ) (cursor : CursorState) (new : PieceFinderState) (result : Result (Unit {0}) FindError) → result ≡ Ok tt → TriesReady (piece_finder_state s (position.Between skip) cursor) result new → TriedSo (piece_finder_state s (position.Between skip) cursor) new
tried_so s skip cursor new result ok (inl none) = subst (TriedSo (piece_finder_state s (position.Between skip) cursor)) (sym none.2) (record { scanning = refl; cursor = refl; fine = λ fault e. cc; fed = refl })
tried_so s skip cursor new result ok (inr h) = subst (TriedSo (piece_finder_state s (position.Between skip) cursor)) (sym h.same) (trial_so s (position.Between skip) cursor h.start h.does.learns.trial result h.walker ok h.does.learns.follows)

-- what is left begins with a new key
pub tried_new : (s : ScannerState) (skip : ℕ) (cursor : CursorState) (new : PieceFinderState) (result : Result (Unit {0}) FindError) → TriesReady (piece_finder_state s (position.Between skip) cursor) result new → IsNextNew new
tried_new s skip cursor new result (inl none) = subst IsNextNew (sym none.2) tt
tried_new s skip cursor new result (inr h) = subst IsNextNew (sym h.same) h.does.next_new

-- something is ready only of a line
pub tried_ready : (f new : PieceFinderState) (result : Result (Unit {0}) FindError) → has_ready f ≡ false → TriesReady f result new → has_ready new ≡ true → (line : LogicalLine) × (f.scanning.ready ≡ Some line)
tried_ready f new result nothing (inl none) ready = absurd (true_or_false _ (ap has_ready none.2 ∙ nothing) ready)
tried_ready f new result nothing (inr h) ready = (h.line, h.at.ready)

-- the line that is ready is bad
pub record IsBadReady (f : PieceFinderState) (fault : Fault) (new : PieceFinderState) : Type 0 where
  pub line : LogicalLine
  pub start : LineStart
  pub at : HasReady f.scanning line start
  pub bad : IsBadAt line fault
  pub counts : ends_top (options_for f) line ≡ false
  pub kept : new ≡ with_walker f (with_fault (walker_of f) start fault)

-- what an error of trying a line is
pub record IsTriedBad (f : PieceFinderState) (e : FindError) (new : PieceFinderState) : Type 0 where
  pub fault : Fault
  pub is : e ≡ error.Fault fault
  pub bad : IsBadReady f fault new

pub error_is : (e other : FindError) (r : Result (Unit {0}) FindError) → r ≡ Err e → r ≡ Err other → e ≡ other
error_is e other r h k = cc

trial_bad : (f new : PieceFinderState) (line : LogicalLine) (start : LineStart) (w : WalkerState) (t : Trial) (result : Result (Unit {0}) FindError) (e : FindError) → result ≡ Err e → HasReady f.scanning line start → TurnsOut (options_for f) line t → FollowsTrial (walker_of f) start t result w → new ≡ with_walker f w → IsTriedBad f e new
trial_bad f new line start w (binding bs) result e err at turns follows same = absurd (not_err e result follows.0 err)
trial_bad f new line start w ending result e err at turns follows same = absurd (not_err e result follows.0 err)
trial_bad f new line start w (failing fault) result e err at turns follows same = record { fault = fault; is = error_is e (error.Fault fault) result err follows.0; bad = record { line = line; start = start; at = at; bad = turns.0; counts = turns.1; kept = same ∙ ap (with_walker f) follows.1 } }
trial_bad f new line start w lost result e err at turns follows same = absurd (not_err e result follows.0 err)

pub tried_bad : (f new : PieceFinderState) (result : Result (Unit {0}) FindError) (e : FindError) → result ≡ Err e → TriesReady f result new → IsTriedBad f e new
tried_bad f new result e err (inl none) = absurd (not_err e result none.1 err)
tried_bad f new result e err (inr h) = trial_bad f new h.line h.start h.walker h.does.learns.trial result e err h.at h.does.learns.turns h.does.learns.follows h.same

-- a bad line that is settled decides its fault
pub bad_decided : SettledLaws → (f new : PieceFinderState) (text : List ℕ) (skip : ℕ) (values : List BindingValue) (fault : Fault) → f.scanning.ended ≡ false → IsBadReady f fault new → IsBetweenLines f.scanning f.cursor text skip values → DecidesFound (take (fed_of f.scanning) text) (options_for f) fault
bad_decided laws f new text skip values fault yet r between =
    let b = between.after in
    let s = f.scanning in
    let known = take (fed_of s) text in
    let are = ready_known s text b.lines r.line between.released r.at.ready r.at.some_text in
    let settled = known_settled s text (b.lines ++ r.line ∷ []) yet are in
    let begins = subst (λ (t : List ℕ). BeginsLexing t (b.lines ++ r.line ∷ [])) (append-nil known) (laws.lines known [] (b.lines ++ r.line ∷ []) settled) in
    let n = nothing_at_bad laws.ends.laws b r.line fault (known_begins laws s text (b.lines ++ r.line ∷ []) are) r.bad in
    record {
      values = values;
      found = found_at_bad known (options_for f) b.lines r.line b.before values fault begins b.in_top r.counts r.bad b.binds n.found;
      stays = inr (record { before = b.lines; line = r.line; after = []; settled = settled; bad = r.bad });
    }

-- reading a line is trying it, without passing over any binding; and what it answers where it is left unread is no error
abbrev pub tried_result : Result (Unit {0}) FindError → Result (Unit {0}) FindError
tried_result (Ok done) = Ok done
tried_result (Err (error.Fault fault)) = Err (error.Fault fault)
tried_result (Err error.Memory) = Ok tt

step_tries : (old w : WalkerState) (line : LogicalLine) (start : LineStart) (s : Step) (result : Result (Unit {0}) FindError) → Judges old.cursor.options line s → FollowsStep old start s result w → LearnsLine old line start (tried_result result) w
step_tries old w line start (step.Bindings bindings) result judged follows = record {
  trial = binding (map binding_value bindings.items);
  turns = judged;
  follows = (ap tried_result follows.0, record { rest = pending_after start (skip_in old.position) (map binding_value bindings.items); passes = record { dropped = []; split = refl; known = refl; start = refl; taken = omega arith }; same = follows.1 });
}
step_tries old w line start step.Plain result judged follows = absurd judged
step_tries old w line start step.End result judged follows = record { trial = ending; turns = judged; follows = (ap tried_result follows.0, follows.1) }
step_tries old w line start (step.Fault fault) result judged follows = record { trial = failing fault; turns = judged; follows = (ap tried_result follows.0, follows.1) }
step_tries old w line start step.LineLost result judged follows = record { trial = lost; turns = tt; follows = (ap tried_result follows.0, follows.1) }
step_tries old w line start step.NoMemory result judged follows = absurd judged

pub reads_tries : (old w : WalkerState) (line : LogicalLine) (start : LineStart) (result : Result (Unit {0}) FindError) → ReadsOrLosesLine old line start result w → LearnsLine old line start (tried_result result) w
reads_tries old w line start result r = step_tries old w line start r.step result r.judges r.follows

-- a fault may be met where the finder goes on
pub meets_open : (old : PieceFinderState) (fault : Fault) (new : PieceFinderState) → phase_in old.position ≡ phase.Open → MeetsAt (phase_in old.position) old fault new
meets_open old fault new opened = subst (λ (p : Phase). MeetsAt p old fault new) (sym opened) tt

-- a bad line is a fault that is met
pub stops_bad : (old f new : PieceFinderState) (fault : Fault) → phase_in old.position ≡ phase.Open → f.cursor ≡ old.cursor → IsBadReady f fault new → StopsAtFault old fault new
stops_bad old f new fault opened same bad = record {
  kept = ap (λ (g : PieceFinderState). g.position) bad.kept;
  met = meets_open old fault new opened;
  counts = record { options = ap options_for bad.kept ∙ ap (λ (c : CursorState). c.options) same; given = ap (λ (g : PieceFinderState). g.cursor.given) bad.kept ∙ ap (λ (c : CursorState). c.given) same };
}
