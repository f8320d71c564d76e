-- What a finder over pieces answers where it is asked for what is ready.
use Rattle.std.proofs.Common.{◌≡◌, ℕ, ◌^◌, ◌≤◌, true, false, Option, None, Some, Result, Ok, Err, List, [], ◌∷◌, ◌++◌, length, map, drop, inl, inr, refl, sym, ap, ◌∙◌, subst, length-append, length-drop, arith}
use Rattle.std.specs.List.{list_all}
use Rattle.std.proofs.lemmas.List.{length-map}
use Rattle.py_lines.specs.LogicalLine.{LogicalLine}
use Rattle.py_lines.specs.ScannerState.{ScannerState, fed_of}
use Rattle.py_lines.specs.declared.fault.Fault.{Fault}
use Rattle.py_imports.specs.BindingValue.{BindingValue, binding_value}
use Rattle.py_imports.specs.declared.binding.Binding.{Binding}
use Rattle.isort_find.specs.Cursor.{CursorState, next_count, knows_key, BeginsNew}
use Rattle.isort_find.specs.Pending.{PendingState}
use Rattle.isort_find.specs.Position.{phase_in, is_unread, are_left, ready_in, BindsFrom}
use Rattle.isort_find.specs.Pieces.{PieceFinderState, piece_finder_state, options_for, fed_by, has_ready, due_in, due_by, IsWithinLine, HasFoundIn, KnowsGiven, PieceFinderRunsOut, GivesBinding, GivesFault, GivesReady, IsNextNew, StaysNew}
use Rattle.isort_find.specs.Private.KnownLaws.{SettledLaws, OneSettled}
use Rattle.isort_find.specs.Private.LineSteps.{Judges}
use Rattle.isort_find.specs.Private.LooksAtBindings.{PassesBindings, TakesNew}
use Rattle.isort_find.specs.Private.PieceSteps.{HasReady, HandsLine, ReadsReady, ReadsUnread, TakesRead, TakesAfter, TakesReady, walker_of, with_walker}
use Rattle.isort_find.specs.Private.Walks.{WalkerState, FollowsStep, LooksAhead, walker_state, LearnsLine, ReadsOrLosesLine}
use Rattle.isort_find.specs.declared.error.FindError.{FindError}
use Rattle.isort_find.specs.declared.error.FindError.TheVariants as error
use Rattle.isort_find.specs.declared.pending.LineStart.{LineStart}
use Rattle.isort_find.specs.declared.step.Step.{Step}
use Rattle.isort_find.specs.declared.step.Step.TheVariants as step
use Rattle.isort_find.specs.declared.walker.Position.{Position}
use Rattle.isort_find.specs.declared.walker.Position.TheVariants as position
use Rattle.isort_find.specs.declared.walker.Phase.TheVariants as phase
use Rattle.isort_find.proofs.Keys.TakenBindings.{first_known}
use Rattle.isort_find.proofs.Walks.Inside.{inside_passed, gives_at, one_given}
use Rattle.isort_find.proofs.Fed.Known.{true_or_false}
use Rattle.isort_find.proofs.Fed.LetGo.{fed_open}
use Rattle.isort_find.proofs.Fed.Settled.{given_settled}
use Rattle.isort_find.proofs.Fed.Held.{line_any, knows_ready}
use Rattle.isort_find.proofs.Fed.OneLine.{open_or_fault, open_or_end}
use Rattle.isort_find.proofs.Fed.TriedLines.{TriedSo, IsBadReady, held_found, not_err, error_is, trial_so, bad_decided, stops_bad, tried_result, reads_tries}

tries_held : (f new : PieceFinderState) (result : Result (Unit {0}) FindError) → HandsLine ReadsOrLosesLine f result new → HandsLine LearnsLine f (tried_result result) new
tries_held f new result h = record { line = h.line; start = h.start; walker = h.walker; at = h.at; does = reads_tries (walker_of f) h.walker h.line h.start result h.does; same = h.same }

-- the line that was left unread was read
pub ready_found : SettledLaws → (s : ScannerState) (at : Position) (cursor : CursorState) (new : PieceFinderState) (text : List ℕ) (values : List BindingValue) (result : Result (Unit {0}) FindError) → is_unread at ≡ true → ReadsReady (piece_finder_state s at cursor) result new → HasFoundIn (piece_finder_state s at cursor) text values → HasFoundIn new text values
ready_found laws s (position.Unread start skip) cursor new text values result unread (inl none) h = subst (λ (f : PieceFinderState). HasFoundIn f text values) (sym none.2) (record { stopped = h.stopped; reached = (h.reached, none.0) })
ready_found laws s (position.Unread start skip) cursor new text values result unread (inr held) h = held_found laws s (position.Unread start skip) cursor new text values (tried_result result) h.reached h.stopped (tries_held _ new result held)
ready_found laws s other cursor new text values result unread reads h = absurd cc

pub unread_found : SettledLaws → (old mid : PieceFinderState) (text : List ℕ) (values : List BindingValue) (result : Result (Unit {0}) FindError) → ReadsUnread old result mid → HasFoundIn old text values → HasFoundIn mid text values
unread_found laws old mid text values result (inl read) h = ready_found laws old.scanning old.position old.cursor mid text values result read.0 read.1 h
unread_found laws old mid text values result (inr here) h = subst (λ (f : PieceFinderState). HasFoundIn f text values) (sym here.2) h

ready_so : (s : ScannerState) (at : Position) (cursor : CursorState) (new : PieceFinderState) → is_unread at ≡ true → ReadsReady (piece_finder_state s at cursor) (Ok tt) new → TriedSo (piece_finder_state s at cursor) new
ready_so s (position.Unread start skip) cursor new unread (inl none) = subst (TriedSo (piece_finder_state s (position.Unread start skip) cursor)) (sym none.2) (record { scanning = refl; cursor = refl; fine = λ fault e. cc; fed = refl })
ready_so s (position.Unread start skip) cursor new unread (inr held) =
    let h = tries_held (piece_finder_state s (position.Unread start skip) cursor) new (Ok tt) held in
    subst (TriedSo (piece_finder_state s (position.Unread start skip) cursor)) (sym h.same) (trial_so s (position.Unread start skip) cursor h.start h.does.trial (Ok tt) h.walker refl h.does.follows)
ready_so s other cursor new unread reads = absurd cc

-- what stays where a line is read without an error
pub unread_so : (old mid : PieceFinderState) → phase_in old.position ≡ phase.Open → ReadsUnread old (Ok tt) mid → TriedSo old mid
unread_so old mid opened (inl read) = ready_so old.scanning old.position old.cursor mid read.0 read.1
unread_so old mid opened (inr here) = subst (TriedSo old) (sym here.2) (record { scanning = refl; cursor = refl; fine = λ fault is. open_or_fault old.position fault opened is; fed = fed_open old opened })

-- no line is left unread then
ready_read : (s : ScannerState) (at : Position) (cursor : CursorState) (new : PieceFinderState) → is_unread at ≡ true → ReadsReady (piece_finder_state s at cursor) (Ok tt) new → is_unread new.position ≡ false
ready_read s (position.Unread start skip) cursor new unread (inl none) = ap (λ (f : PieceFinderState). is_unread f.position) none.2
ready_read s (position.Unread start skip) cursor new unread (inr held) = ap (λ (f : PieceFinderState). is_unread f.position) held.same ∙ by_step held.does.step held.does.follows
  where
    by_step : (x : Step) → FollowsStep (walker_state (position.Unread start skip) cursor) held.start x (Ok tt) held.walker → is_unread held.walker.position ≡ false
    by_step (step.Bindings bindings) follows = ap (λ (w : WalkerState). is_unread w.position) follows.1
    by_step step.Plain follows = ap (λ (w : WalkerState). is_unread w.position) follows.1
    by_step step.End follows = ap (λ (w : WalkerState). is_unread w.position) follows.1
    by_step (step.Fault fault) follows = absurd (not_err _ _ refl follows.0)
    by_step step.LineLost follows = absurd (not_err _ _ refl follows.0)
    by_step step.NoMemory follows = absurd (not_err _ _ refl follows.0)
ready_read s other cursor new unread reads = absurd cc

pub unread_read : (old mid : PieceFinderState) → ReadsUnread old (Ok tt) mid → is_unread mid.position ≡ false
unread_read old mid (inl read) = ready_read old.scanning old.position old.cursor mid read.0 read.1
unread_read old mid (inr here) = ap (λ (f : PieceFinderState). is_unread f.position) here.2 ∙ here.0

-- what is due once the line was read that was left unread
ready_due : (s : ScannerState) (at : Position) (cursor : CursorState) (new : PieceFinderState) → is_unread at ≡ true → ReadsReady (piece_finder_state s at cursor) (Ok tt) new → due_by new ≤ due_in at
ready_due s (position.Unread start skip) cursor new unread (inl none) = let now : due_by new ≡ 0 = ap due_by none.2 in omega (arith, now)
ready_due s (position.Unread start skip) cursor new unread (inr held) = let same = ap due_by held.same in let few = by_step held.does.step held.does.follows in omega (arith, same, few)
  where
    by_step : (x : Step) → FollowsStep (walker_state (position.Unread start skip) cursor) held.start x (Ok tt) held.walker → due_in held.walker.position ≤ 2 ^ 64
    by_step (step.Bindings bindings) follows =
        let bs = map binding_value bindings.items in
        let now : due_in held.walker.position ≡ length (drop skip bs) = ap (λ (w : WalkerState). due_in w.position) follows.1 in
        omega (arith, now, length-drop skip bs, length-map bindings.items binding_value, bindings.ok, bindings.small)
    by_step step.Plain follows = let now : due_in held.walker.position ≡ 0 = ap (λ (w : WalkerState). due_in w.position) follows.1 in omega (arith, now)
    by_step step.End follows = let now : due_in held.walker.position ≡ 0 = ap (λ (w : WalkerState). due_in w.position) follows.1 in omega (arith, now)
    by_step (step.Fault fault) follows = absurd (not_err _ _ refl follows.0)
    by_step step.LineLost follows = absurd (not_err _ _ refl follows.0)
    by_step step.NoMemory follows = absurd (not_err _ _ refl follows.0)
ready_due s other cursor new unread reads = absurd cc

unread_due : (old mid : PieceFinderState) → ReadsUnread old (Ok tt) mid → due_by mid ≤ due_by old
unread_due old mid (inl read) = ready_due old.scanning old.position old.cursor mid read.0 read.1
unread_due old mid (inr here) = let same = ap due_by here.2 in omega (arith, same)

pub unread_ready : (s : Position) → is_unread s ≡ true → ready_in s ≡ true
unread_ready (position.Unread start skip) unread = refl
unread_ready other unread = absurd cc

-- a binding was taken of a line, and those after it were looked at
record Took (mid : PieceFinderState) (b : BindingValue) (new : PieceFinderState) : Type 0 where
  pub pending : PendingState
  pub at : mid.position ≡ position.Within pending
  pub cursor : CursorState
  pub rest : PendingState
  pub last : PendingState
  pub takes : TakesNew mid.cursor pending b cursor rest
  pub passes : PassesBindings cursor rest last
  pub ahead : BeginsNew cursor last.left
  pub same : new ≡ piece_finder_state mid.scanning (position.Within last) cursor

some_is_none : (x : Binding) → ◌≡◌ {A = Result (Option Binding) FindError} (Ok (Some x)) (Ok None) → ⊥
some_is_none x h = cc

took : (s : ScannerState) (at : Position) (cursor : CursorState) (x : Binding) (new : PieceFinderState) → TakesRead (piece_finder_state s at cursor) (Ok (Some x)) new → Took (piece_finder_state s at cursor) (binding_value x) new
took s (position.Within p) cursor x new k =
    let looks = subst (λ (w : WalkerState). LooksAhead w k.walker) k.takes.same k.looks in
    record { pending = p; at = refl; cursor = k.mid.cursor; rest = k.takes.rest; last = looks.rest; takes = k.takes.takes; passes = looks.passes; ahead = looks.next_new; same = k.same ∙ ap (λ (w : WalkerState). piece_finder_state s w.position w.cursor) looks.same }
took s (position.Between skip) cursor x new k = absurd (some_is_none x k.takes.0)
took s (position.Unread start skip) cursor x new k = absurd (some_is_none x k.takes.0)
took s (position.End passed) cursor x new k = absurd (some_is_none x k.takes.0)
took s (position.Fault fault) cursor x new k = absurd (some_is_none x k.takes.0)

-- what there is then
record HasTookOne (s : ScannerState) (cursor : CursorState) (last : PendingState) (text : List ℕ) (values : List BindingValue) (b : BindingValue) : Type 0 where
  pub found : HasFoundIn (piece_finder_state s (position.Within last) cursor) text (values ++ b ∷ [])
  pub within : IsWithinLine s cursor.options text last (values ++ b ∷ [])
  pub from : BindsFrom text cursor.offset b

took_one : (s : ScannerState) (cursor t : CursorState) (p rest last : PendingState) (b : BindingValue) (text : List ℕ) (values : List BindingValue) → TakesNew cursor p b t rest → PassesBindings t rest last → HasFoundIn (piece_finder_state s (position.Within p) cursor) text values → HasTookOne s t last text values b
took_one s cursor t p rest last b text values takes passes h =
    let w = h.reached in
    let g = one_given text cursor t w.lines w.line p rest values b h.stopped takes w.inside in
    let within : IsWithinLine s t.options text last (values ++ b ∷ []) = record { lines = w.lines; line = w.line; released = w.released; ready = w.ready; known = w.known; inside = inside_passed text t w.lines w.line rest last (values ++ b ∷ []) g.stopped passes g.inside } in
    record { found = record { stopped = g.stopped; reached = within }; within = within; from = g.from }

left_of_split : (dropped left : List BindingValue) (b : BindingValue) (rest : List BindingValue) → left ≡ dropped ++ b ∷ rest → are_left left ≡ true
left_of_split [] left b rest h = ap are_left h
left_of_split (d ∷ ds) left b rest h = ap are_left h

-- a line was left unread, or bindings are left
ready_before : (old mid : PieceFinderState) (left : List BindingValue) (r : Result (Unit {0}) FindError) → ReadsUnread old r mid → ready_in mid.position ≡ true → has_ready old ≡ true
ready_before old mid left r (inl read) ready = unread_ready old.position read.0
ready_before old mid left r (inr here) ready = ap has_ready (sym here.2) ∙ ready

-- a binding was taken
given_after : SettledLaws → OneSettled → (old mid new : PieceFinderState) (b : BindingValue) → phase_in old.position ≡ phase.Open → ReadsUnread old (Ok tt) mid → Took mid b new → GivesBinding old b new
given_after laws one old mid new b opened reads k =
    let so = unread_so old mid opened reads in
    let at : mid ≡ piece_finder_state mid.scanning (position.Within k.pending) mid.cursor = ap (λ (s : Position). piece_finder_state mid.scanning s mid.cursor) k.at in
    let cursor = gives_at mid.cursor k.cursor k.pending k.rest b k.takes in
    let scanning : new.scanning ≡ old.scanning = ap (λ (f : PieceFinderState). f.scanning) k.same ∙ so.scanning in
    let here : (text : List ℕ) (values : List BindingValue) → HasFoundIn old text values → HasTookOne mid.scanning k.cursor k.last text values b = λ text values h. took_one mid.scanning mid.cursor k.cursor k.pending k.rest k.last b text values k.takes k.passes (subst (λ (f : PieceFinderState). HasFoundIn f text values) at (unread_found laws old mid text values (Ok tt) reads h)) in
    let ready : ready_in mid.position ≡ true = ap ready_in k.at ∙ left_of_split k.takes.passes.dropped k.pending.left b k.rest.left (k.takes.passes.split ∙ ap (λ l. k.takes.passes.dropped ++ l) k.takes.looks.left) in
    let was_ready : has_ready old ≡ true = ready_before old mid [] (Ok tt) reads ready in
    let is_open : phase_in new.position ≡ phase.Open = ap (λ (f : PieceFinderState). phase_in f.position) k.same in
    record {
      unfed = record {
        fed = ap fed_by k.same ∙ ap fed_of so.scanning ∙ sym (fed_open old opened);
        open_yet = ap (λ (s : ScannerState). s.ended) scanning;
        no_fault = λ fine fault is. open_or_fault new.position fault is_open is;
        stays = λ top. absurd (open_or_end _ opened top);
      };
      counts = record {
        options = ap options_for k.same ∙ ap (λ (c : CursorState). c.options) cursor ∙ ap (λ (c : CursorState). c.options) so.cursor;
        given = ap (λ (f : PieceFinderState). f.cursor.given) k.same ∙ ap (λ (c : CursorState). c.given) cursor ∙ ap (λ (c : CursorState). next_count c.given) so.cursor;
      };
      was_ready = was_ready;
      is_open = is_open;
      next_new = subst IsNextNew (sym k.same) k.ahead;
      falls =
          (let before = unread_due old mid reads in
          let due : due_by mid ≡ length k.pending.left = ap due_by at in
          let now : due_by new ≡ length k.last.left = ap due_by k.same in
          let passed = ap length k.takes.passes.split in
          let taken = ap length k.takes.looks.left in
          let ahead = ap length k.passes.split in
          omega (arith, before, due, now, passed, taken, ahead, length-append k.takes.passes.dropped k.takes.between.left, length-append k.passes.dropped k.last.left));
      texts = λ text values h.
          let it = here text values h in
          subst (λ (f : PieceFinderState). KnowsGiven f b text values) (sym k.same) (record {
            found = it.found;
            settled = λ yet. given_settled laws one mid.scanning k.cursor text k.last (values ++ b ∷ []) yet it.within;
            from = it.from;
            line = line_any mid.scanning (position.Within k.last) k.cursor text (values ++ b ∷ []) it.within.line refl it.within.ready it.found;
          });
    }

pub ok_or_error : (x : Option Binding) (e : FindError) (r : Result (Option Binding) FindError) → r ≡ Ok x → r ≡ Err e → ⊥
ok_or_error x e r h k = cc

gives_by : SettledLaws → OneSettled → (old mid new : PieceFinderState) (x : Binding) (r : Result (Unit {0}) FindError) → phase_in old.position ≡ phase.Open → ReadsUnread old r mid → TakesAfter r mid (Ok (Some x)) new → GivesBinding old (binding_value x) new
gives_by laws one old mid new x (Ok done) opened reads after = given_after laws one old mid new (binding_value x) opened reads (took mid.scanning mid.position mid.cursor x new after)
gives_by laws one old mid new x (Err e) opened reads after = absurd (ok_or_error (Some x) e (Ok (Some x)) refl after.0)

-- the next binding was given
pub gives_binding : SettledLaws → OneSettled → (old new : PieceFinderState) (x : Binding) → phase_in old.position ≡ phase.Open → TakesReady old (Ok (Some x)) new → GivesBinding old (binding_value x) new
gives_binding laws one old new x opened t = gives_by laws one old t.mid new x t.read opened t.reads t.takes

-- the last line is bad
bad_line : SettledLaws → (s : ScannerState) (start : LineStart) (skip : ℕ) (cursor : CursorState) (new : PieceFinderState) (fault : Fault) → IsBadReady (piece_finder_state s (position.Unread start skip) cursor) fault new → ((text : List ℕ) (values : List BindingValue) → HasFoundIn (piece_finder_state s (position.Unread start skip) cursor) text values → HasFoundIn new text values) → GivesFault (piece_finder_state s (position.Unread start skip) cursor) fault new
bad_line laws s start skip cursor new fault bad found =
    let f = piece_finder_state s (position.Unread start skip) cursor in
    record {
      stops = stops_bad f f new fault refl refl bad;
      unread = refl;
      fed = ap fed_by bad.kept;
      open_yet = ap (λ (f : PieceFinderState). f.scanning.ended) bad.kept;
      found = found;
      decided = λ yet text values h. bad_decided laws f new text skip values fault yet bad h.reached;
    }

-- memory ran out for it
lost_again : (s : ScannerState) (start here : LineStart) (skip : ℕ) (cursor : CursorState) (new : PieceFinderState) (line : LogicalLine) → s.ready ≡ Some line → new ≡ piece_finder_state s (position.Unread here skip) cursor → PieceFinderRunsOut (piece_finder_state s (position.Unread start skip) cursor) new × (true ≡ true) × StaysNew (piece_finder_state s (position.Unread start skip) cursor) new
lost_again s start here skip cursor new line ready is = (
  subst (PieceFinderRunsOut (piece_finder_state s (position.Unread start skip) cursor)) (sym is) (record {
    unfed = record {
      fed = refl;
      open_yet = refl;
      no_fault = λ fine fault at. open_or_fault (position.Unread here skip) fault refl at;
      stays = λ top. absurd (open_or_end _ refl top);
    };
    cursor = refl;
    was_open = refl;
    is_open = refl;
    ready = refl;
    scanning = λ was. refl;
    texts = λ text values h. knows_ready (piece_finder_state s (position.Unread here skip) cursor) text values line refl ready (record { stopped = h.stopped; reached = h.reached });
  }),
  refl,
  λ read next. absurd (true_or_false _ read refl),
)

error_of : (e other : FindError) (a : Result (Option Binding) FindError) → a ≡ Err e → a ≡ Err other → e ≡ other
error_of e other a h k = cc

-- an error of reading the line
step_error : SettledLaws → (s : ScannerState) (start here : LineStart) (skip : ℕ) (cursor : CursorState) (new : PieceFinderState) (line : LogicalLine) (x : Step) (w : WalkerState) (e : FindError) → HasReady s line here → Judges cursor.options line x → FollowsStep (walker_state (position.Unread start skip) cursor) here x (Err e) w → new ≡ piece_finder_state s w.position w.cursor → ((text : List ℕ) (values : List BindingValue) → HasFoundIn (piece_finder_state s (position.Unread start skip) cursor) text values → HasFoundIn new text values) → GivesReady (piece_finder_state s (position.Unread start skip) cursor) (Err e) new
step_error laws s start here skip cursor new line (step.Bindings bindings) w e at judged follows same found = absurd (not_err e (Err e) follows.0 refl)
step_error laws s start here skip cursor new line step.Plain w e at judged follows same found = absurd judged
step_error laws s start here skip cursor new line step.End w e at judged follows same found = absurd (not_err e (Err e) follows.0 refl)
step_error laws s start here skip cursor new line (step.Fault fault) w e at judged follows same found =
    let f = piece_finder_state s (position.Unread start skip) cursor in
    let bad : IsBadReady f fault new = record { line = line; start = here; at = at; bad = judged.0; counts = judged.1; kept = same ∙ ap (with_walker f) follows.1 } in
    subst (λ (y : FindError). GivesReady f (Err y) new) (sym (error_is e (error.Fault fault) (Err e) refl follows.0)) (bad_line laws s start skip cursor new fault bad found)
step_error laws s start here skip cursor new line step.LineLost w e at judged follows same found = subst (λ (y : FindError). GivesReady (piece_finder_state s (position.Unread start skip) cursor) (Err y) new) (sym (error_is e error.Memory (Err e) refl follows.0)) (lost_again s start here skip cursor new line at.ready (same ∙ ap (λ (v : WalkerState). piece_finder_state s v.position v.cursor) follows.1))
step_error laws s start here skip cursor new line step.NoMemory w e at judged follows same found = absurd judged

read_error : SettledLaws → (s : ScannerState) (at : Position) (cursor : CursorState) (new : PieceFinderState) (e : FindError) → is_unread at ≡ true → ReadsReady (piece_finder_state s at cursor) (Err e) new → GivesReady (piece_finder_state s at cursor) (Err e) new
read_error laws s (position.Unread start skip) cursor new e unread (inl none) = absurd (not_err e (Err e) none.1 refl)
read_error laws s (position.Unread start skip) cursor new e unread (inr h) = step_error laws s start h.start skip cursor new h.line h.does.step h.walker e h.at h.does.judges h.does.follows h.same (λ text values found. ready_found laws s (position.Unread start skip) cursor new text values (Err e) refl (inr h) found)
read_error laws s other cursor new e unread reads = absurd cc

nonempty : (left : List BindingValue) → (left ≡ [] → ⊥) → are_left left ≡ true
nonempty [] h = absurd (h refl)
nonempty (b ∷ bs) h = refl

split_nonempty : (dropped left : List BindingValue) → (left ≡ [] → ⊥) → are_left (dropped ++ left) ≡ true
split_nonempty [] left h = nonempty left h
split_nonempty (d ∷ ds) left h = refl

-- the line that was read begins with a new key
read_new : (old mid : PieceFinderState) → ReadsUnread old (Ok tt) mid → is_unread old.position ≡ false → IsNextNew old → IsNextNew mid
read_new old mid (inl read) none next = absurd (true_or_false _ none read.0)
read_new old mid (inr here) none next = subst IsNextNew (sym here.2) next

-- and so what is left, where bindings with known keys were passed over
left_new : (s : CursorState) (dropped left : List BindingValue) → list_all (knows_key s.options.unique s.keys) dropped ≡ true → BeginsNew s (dropped ++ left) → BeginsNew s left
left_new s [] left known next = next
left_new s (d ∷ ds) left known next = absurd (true_or_false _ next (first_known s d ds known))

-- bindings were passed over, and memory ran out for the next
passed_over : SettledLaws → (old : PieceFinderState) (s : ScannerState) (p q : PendingState) (cursor : CursorState) (new : PieceFinderState) → phase_in old.position ≡ phase.Open → ReadsUnread old (Ok tt) (piece_finder_state s (position.Within p) cursor) → PassesBindings cursor p q → (q.left ≡ [] → ⊥) → new ≡ piece_finder_state s (position.Within q) cursor → PieceFinderRunsOut old new × (has_ready old ≡ true) × StaysNew old new
passed_over laws old s p q cursor new opened reads passes some is =
    let mid = piece_finder_state s (position.Within p) cursor in
    let so = unread_so old mid opened reads in
    let before = ready_before old mid [] (Ok tt) reads (ap are_left passes.split ∙ split_nonempty passes.dropped q.left some) in (
      subst (PieceFinderRunsOut old) (sym is) (record {
        unfed = record {
          fed = so.fed ∙ sym (fed_open old opened);
          open_yet = ap (λ (x : ScannerState). x.ended) so.scanning;
          no_fault = λ fine fault at. open_or_fault (position.Within q) fault refl at;
          stays = λ top. absurd (open_or_end _ opened top);
        };
        cursor = so.cursor;
        was_open = opened;
        is_open = refl;
        ready = nonempty q.left some ∙ sym before;
        scanning = λ was. so.scanning;
        texts = λ text values h.
            let g = unread_found laws old mid text values (Ok tt) reads h in
            let w = g.reached in
            knows_ready (piece_finder_state s (position.Within q) cursor) text values w.line (nonempty q.left some) w.ready (record { stopped = g.stopped; reached = record { lines = w.lines; line = w.line; released = w.released; ready = w.ready; known = w.known; inside = inside_passed text cursor w.lines w.line p q values g.stopped passes w.inside } });
      }),
      before,
      λ read next. subst IsNextNew (sym is) (left_new cursor passes.dropped q.left passes.known (subst (BeginsNew cursor) passes.split (read_new old mid reads read next))),
    )

take_error : SettledLaws → (old : PieceFinderState) (s : ScannerState) (at : Position) (cursor : CursorState) (new : PieceFinderState) (e : FindError) → phase_in old.position ≡ phase.Open → ReadsUnread old (Ok tt) (piece_finder_state s at cursor) → TakesRead (piece_finder_state s at cursor) (Err e) new → GivesReady old (Err e) new
take_error laws old s (position.Within p) cursor new e opened reads k =
    let takes = k.takes.takes in
    let is : new ≡ piece_finder_state s (position.Within k.takes.rest) cursor = k.same ∙ ap (λ (w : WalkerState). piece_finder_state s w.position w.cursor) (k.looks ∙ k.takes.same) ∙ ap (λ (c : CursorState). piece_finder_state s (position.Within k.takes.rest) c) takes.1 in
    subst (λ (y : FindError). GivesReady old (Err y) new) (sym takes.2) (passed_over laws old s p k.takes.rest cursor new opened reads takes.0 takes.3 is)
take_error laws old s (position.Between skip) cursor new e opened reads k = absurd (ok_or_error None e (Err e) k.takes.0 refl)
take_error laws old s (position.Unread start skip) cursor new e opened reads k = absurd (ok_or_error None e (Err e) k.takes.0 refl)
take_error laws old s (position.End passed) cursor new e opened reads k = absurd (ok_or_error None e (Err e) k.takes.0 refl)
take_error laws old s (position.Fault fault) cursor new e opened reads k = absurd (ok_or_error None e (Err e) k.takes.0 refl)

unread_error : SettledLaws → (old new : PieceFinderState) (e : FindError) → ReadsUnread old (Err e) new → GivesReady old (Err e) new
unread_error laws old new e (inl read) = read_error laws old.scanning old.position old.cursor new e read.0 read.1
unread_error laws old new e (inr here) = absurd (not_err e (Err e) here.1 refl)

error_by : SettledLaws → (old mid new : PieceFinderState) (e : FindError) (r : Result (Unit {0}) FindError) → phase_in old.position ≡ phase.Open → ReadsUnread old r mid → TakesAfter r mid (Err e) new → GivesReady old (Err e) new
error_by laws old mid new e (Ok done) opened reads after = take_error laws old mid.scanning mid.position mid.cursor new e opened reads after
error_by laws old mid new e (Err other) opened reads after = subst (λ (f : PieceFinderState). GivesReady old (Err e) f) (sym after.1) (subst (λ (x : FindError). GivesReady old (Err x) mid) (sym (error_of e other (Err e) refl after.0)) (unread_error laws old mid other reads))

-- an error of a call that asks for what is ready
pub answers_error : SettledLaws → (old new : PieceFinderState) (e : FindError) → phase_in old.position ≡ phase.Open → TakesReady old (Err e) new → GivesReady old (Err e) new
answers_error laws old new e opened t = error_by laws old t.mid new e t.read opened t.reads t.takes
