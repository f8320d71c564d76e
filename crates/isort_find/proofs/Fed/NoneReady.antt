-- What a finder over pieces answers where nothing is ready.
use Rattle.std.proofs.Common.{◌≡◌, ℕ, true, false, Option, None, Result, Ok, Err, List, [], ◌∷◌, ◌++◌, inl, inr, ◌⊎◌, refl, sym, ap, ◌∙◌, subst, append-nil}
use Rattle.std.proofs.lemmas.List.{nil_from_length}
use Rattle.std.specs.List.{list_all}
use Rattle.py_lines.specs.LogicalLine.{LogicalLine}
use Rattle.py_lines.specs.Lexed.{IsLexed}
use Rattle.py_lines.specs.ScannerState.{ScannerState, ready_lines}
use Rattle.py_lines.specs.declared.fault.Fault.{Fault}
use Rattle.py_imports.specs.BindingValue.{BindingValue}
use Rattle.isort_find.specs.Found.{firsts, IsFound}
use Rattle.isort_find.specs.Cursor.{CursorState, IsAfter, HasStopped, BeginsNew, knows_key}
use Rattle.isort_find.specs.Pending.{PendingState}
use Rattle.isort_find.specs.Position.{phase_in, skip_in, left_in, is_unread, are_left, ready_in, MeetsEndAt}
use Rattle.isort_find.specs.Pieces.{PieceFinderState, piece_finder_state, options_for, fed_by, has_ready, IsOver, IsUnsure, HasReleased, IsBetweenLines, IsAtTopEnd, HasFoundIn, FindsAll, GivesNone}
use Rattle.isort_find.specs.Private.CursorMoves.{cursor_before}
use Rattle.isort_find.specs.Private.KnownLaws.{SettledLaws, OneSettled, AscentLaws}
use Rattle.isort_find.specs.Private.LooksAtBindings.{PassesBindings}
use Rattle.isort_find.specs.Private.PieceSteps.{IsNextStart, ReleasesAny, MayStandNext, MayLetLineGo, Rests, ReadsUnread, TakesRead, TakesAfter, TakesReady}
use Rattle.isort_find.specs.Private.Walks.{WalkerState, LooksAhead, walker_state}
use Rattle.isort_find.specs.declared.error.FindError.{FindError}
use Rattle.isort_find.specs.declared.options.FindOptions.{FindOptions}
use Rattle.isort_find.specs.declared.pending.LineStart.{LineStart}
use Rattle.isort_find.specs.declared.walker.Position.{Position}
use Rattle.isort_find.specs.declared.walker.Position.TheVariants as position
use Rattle.isort_find.specs.declared.walker.Phase.TheVariants as phase
use Rattle.isort_find.proofs.Keys.TakenBindings.{first_known}
use Rattle.isort_find.proofs.Finds.LinePlaces.{bytes_given, bytes_lexed}
use Rattle.isort_find.proofs.Finds.SettledFound.{append-nil-lines}
use Rattle.isort_find.proofs.Walks.Inside.{nothing_dropped, inside_passed}
use Rattle.isort_find.proofs.Walks.NextLine.{IsAtNothing, nothing_at_end, found_whole, found_lexed, found_at_top, stops_before}
use Rattle.isort_find.proofs.Fed.Known.{next_start, known_begins, true_or_false}
use Rattle.isort_find.proofs.Fed.LetGo.{begun_is, gone_between, fed_gone, ended_gone, fed_open}
use Rattle.isort_find.proofs.Fed.Held.{knows_any, knows_top}
use Rattle.isort_find.proofs.Fed.OneLine.{open_or_fault, open_or_end, end_or_fault, end_not_ready}
use Rattle.isort_find.proofs.Fed.Ready.{ok_or_error, unread_found, unread_so, unread_read}

-- after all lines of a text
all_lexed : (s : ScannerState) (cursor : CursorState) (text : List ℕ) (skip : ℕ) (values : List BindingValue) → s.ended ≡ true → s.ready ≡ None → (b : IsBetweenLines s cursor text skip values) → IsLexed text b.after.lines None
all_lexed s cursor text skip values over none b = by b.after.lines b.released
  where
    by : (lines : List LogicalLine) → HasReleased s text lines → IsLexed text lines None
    by lines (inl h) = absurd (true_or_false _ h.open_yet over)
    by lines (inr h) = subst (λ (ls : List LogicalLine). IsLexed text ls None) (append-nil-lines lines) (subst (λ (x : Option LogicalLine). IsLexed text (lines ++ ready_lines x) None) none h.lexed)

-- between two lines, where the cursor stands
record IsResting (s : ScannerState) (cursor : CursorState) (text : List ℕ) (skip : ℕ) (values : List BindingValue) : Type 0 where
  pub between : IsBetweenLines s cursor text skip values
  pub stopped : HasStopped text cursor values
  pub stands : cursor.offset ≡ s.place

-- the cursor goes there
goes_next : (s : ScannerState) (cursor : CursorState) (start : LineStart) (text : List ℕ) (skip : ℕ) (values : List BindingValue) → IsNextStart s start → skip ≡ 0 → IsBetweenLines s cursor text skip values → HasStopped text cursor values → IsResting s (cursor_before cursor start) text skip values
goes_next s cursor start text skip values here fresh b stopped =
    let is : start ≡ next_start s = (λ i. record { offset = here.offset i; line = here.line i }) in
    let none = nil_from_length b.after.part (sym b.after.is_part.0 ∙ fresh) in
    let n : IsAtNothing b.after = record { none = none; found = found_whole b.after none } in
    record {
      between = record { after = b.after; released = b.released; stands = inl fresh };
      stopped = subst (λ (x : LineStart). HasStopped text (cursor_before cursor x) values) (sym is) (stops_before cursor (next_start s) b.after n stopped);
      stands = here.offset;
    }

-- or stands there
stays_there : (s : ScannerState) (cursor : CursorState) (text : List ℕ) (skip : ℕ) (values : List BindingValue) → ¬ (skip ≡ 0) → IsBetweenLines s cursor text skip values → HasStopped text cursor values → IsResting s cursor text skip values
stays_there s cursor text skip values some b stopped = record { between = b; stopped = stopped; stands = there b.stands }
  where
    there : (skip ≡ 0) ⊎ (cursor.offset ≡ s.place) → cursor.offset ≡ s.place
    there (inl fresh) = absurd (some fresh)
    there (inr at) = at

-- where the finder stands then: at the same byte and line, with its cursor moved or not
record RestsAt (t : ScannerState) (skip : ℕ) (cursor : CursorState) (new : PieceFinderState) : Type 0 where
  pub last : CursorState
  pub same : new ≡ piece_finder_state t (position.Between skip) last
  pub options : last.options ≡ cursor.options
  pub given : last.given ≡ cursor.given
  pub rests : (text : List ℕ) (values : List BindingValue) → IsBetweenLines t cursor text skip values → HasStopped text cursor values → IsResting t last text skip values

rests_at : (t : ScannerState) (skip : ℕ) (cursor : CursorState) (new : PieceFinderState) → MayStandNext (piece_finder_state t (position.Between skip) cursor) new → RestsAt t skip cursor new
rests_at t skip cursor new (inl s) = record { last = cursor_before cursor s.start; same = s.same; options = refl; given = refl; rests = λ text values b stopped. goes_next t cursor s.start text skip values s.here s.fresh b stopped }
rests_at t skip cursor new (inr s) = record { last = cursor; same = s.1; options = refl; given = refl; rests = λ text values b stopped. stays_there t cursor text skip values s.0 b stopped }

-- a finder that has given the same as another, with nothing left to give
record IsLeft (old f : PieceFinderState) : Type 0 where
  pub found : (text : List ℕ) (values : List BindingValue) → HasFoundIn old text values → HasFoundIn f text values
  pub fed : fed_by f ≡ fed_by old
  pub ended : f.scanning.ended ≡ old.scanning.ended
  pub options : options_for f ≡ options_for old
  pub given : f.cursor.given ≡ old.cursor.given
  pub stays : phase_in old.position ≡ phase.End → phase_in f.position ≡ phase.End
  pub was_fine : (fault : Fault) → old.position ≡ position.Fault fault → ⊥
  pub unsure : has_ready old ≡ true → IsUnsure old

not_over : (f : PieceFinderState) → phase_in f.position ≡ phase.Open → IsOver f → f.scanning.ended ≡ true
not_over f opened (inl over) = over
not_over f opened (inr top) = absurd (open_or_end _ opened top)

-- nothing is ready in a line or between two
none_open : SettledLaws → OneSettled → AscentLaws → (old f : PieceFinderState) (t : ScannerState) (new : PieceFinderState) → IsLeft old f → phase_in f.position ≡ phase.Open → has_ready f ≡ false → ReleasesAny f.scanning t → t.ready ≡ None → RestsAt t (skip_in f.position) f.cursor new → GivesNone old new
none_open laws one ascent old f t new left opened none gone nothing r =
    let skip = skip_in f.position in
    let g = piece_finder_state t (position.Between skip) r.last in
    let options : r.last.options ≡ options_for old = r.options ∙ left.options in
    let ended : t.ended ≡ old.scanning.ended = ended_gone f.scanning t gone ∙ left.ended in
    let resting : (text : List ℕ) (values : List BindingValue) → HasFoundIn old text values → IsResting t r.last text skip values = λ text values h. let q = left.found text values h in r.rests text values (gone_between f.scanning t f.position f.cursor text values opened none gone q) q.stopped in
    subst (GivesNone old) (sym r.same) (record {
      unfed = record {
        fed = fed_gone f.scanning t gone ∙ sym (fed_open f opened) ∙ left.fed;
        open_yet = ended;
        no_fault = λ fine fault is. open_or_fault g.position fault refl is;
        stays = λ top. absurd (open_or_end (phase_in f.position) opened (left.stays top));
      };
      counts = record { options = options; given = r.given ∙ left.given };
      none_ready = refl;
      unsure = left.unsure;
      after_fault = λ fault was. absurd (left.was_fine fault was);
      texts = λ text values h. let q = resting text values h in knows_any laws one ascent g text values (λ yet none. nothing) (λ over ready. absurd (true_or_false _ refl ready)) (record { stopped = q.stopped; reached = (q.between, nothing) });
      rests = λ fine text values h. let q = resting text values h in record { offset = q.stands; whole = λ over. whole g nothing (not_over g refl over) text values q };
    })
  where
    whole : (g : PieceFinderState) → g.scanning.ready ≡ None → g.scanning.ended ≡ true → (text : List ℕ) (values : List BindingValue) → IsResting g.scanning g.cursor text (skip_in f.position) values → FindsAll g text values g.cursor.offset
    whole g nothing over text values q =
        let b = q.between.after in
        let lexed = all_lexed g.scanning g.cursor text (skip_in f.position) values over nothing q.between in
        let n = nothing_at_end laws.ends.laws b None lexed in
        let found = found_lexed text (options_for g) b.lines b.before values None lexed b.in_top b.binds n.found in
        (found, inl (q.stands ∙ sym (bytes_given _ b.lines b.given) ∙ bytes_lexed text b.lines lexed))

-- these bindings are all, whatever the finder
abbrev AllOf : List ℕ → List BindingValue → FindOptions → ℕ → Type 0
AllOf text values options offset = IsFound text options values None × MeetsEndAt text options offset

-- nothing is ready after the top
none_top : SettledLaws → AscentLaws → (old : PieceFinderState) (s : ScannerState) (passed : ℕ) (cursor : CursorState) (start : LineStart) → IsNextStart s start → IsLeft old (piece_finder_state s (position.End passed) cursor) → GivesNone old (piece_finder_state s (position.End passed) (cursor_before cursor start))
none_top laws ascent old s passed cursor start here left =
    let top : (text : List ℕ) (values : List BindingValue) → HasFoundIn old text values → IsAtTopEnd s cursor.options text values = λ text values h. (left.found text values h).reached in
    let is : start ≡ next_start s = (λ i. record { offset = here.offset i; line = here.line i }) in
    record {
      unfed = record { fed = left.fed; open_yet = left.ended; no_fault = λ fine fault is. end_or_fault (position.End passed) fault refl is; stays = λ was. refl };
      counts = record { options = left.options; given = left.given };
      none_ready = refl;
      unsure = left.unsure;
      after_fault = λ fault was. absurd (left.was_fine fault was);
      texts = λ text values h. knows_top laws ascent s passed (cursor_before cursor start) text values (record { stopped = subst (λ (x : LineStart). HasStopped text (cursor_before cursor x) values) (sym is) (stops text values (top text values h) (left.found text values h).stopped); reached = top text values h });
      rests = λ fine text values h. record { offset = here.offset; whole = λ over. subst (AllOf text values cursor.options) (sym here.offset) (top_found text values (top text values h)) };
    }
  where
    stops : (text : List ℕ) (values : List BindingValue) → IsAtTopEnd s cursor.options text values → HasStopped text cursor values → HasStopped text (cursor_before cursor (next_start s)) values
    stops text values t stopped =
        let after : IsAfter text cursor.options s.place s.line 0 values = record { lines = t.lines; before = t.before; part = []; given = t.given; binds = t.binds; in_top = t.in_top; is_part = (refl, inl refl); found = t.found ∙ ap (firsts cursor.options.unique []) (sym (append-nil t.before)) } in
        stops_before cursor (next_start s) after (record { none = refl; found = t.found }) stopped

    top_found : (text : List ℕ) (values : List BindingValue) → IsAtTopEnd s cursor.options text values → FindsAll (piece_finder_state s (position.End passed) cursor) text values s.place
    top_found text values t =
        let begins = known_begins laws s text (t.lines ++ t.line ∷ []) t.known in
        (found_at_top text cursor.options t.lines t.line t.before values begins t.in_top t.ends t.binds t.found, inr (record { before = t.lines; line = t.line; begins = begins; place = bytes_given _ t.lines t.given; is = t.ends }))

-- the line is let go, and the cursor goes to the next
going : SettledLaws → OneSettled → AscentLaws → (old f : PieceFinderState) (mid new : PieceFinderState) → phase_in f.position ≡ phase.Open → has_ready f ≡ false → IsLeft old f → MayLetLineGo f mid → MayStandNext mid new → GivesNone old new
going laws one ascent old f mid new opened none left (inl goes) stands =
    let l = goes.1 in
    let t = mid.scanning in
    none_open laws one ascent old f t new left opened none l.scanner l.none_ready (rests_at t (skip_in f.position) f.cursor new (subst (λ (m : PieceFinderState). MayStandNext m new) (begun_is f mid opened none l) stands))
going laws one ascent old f mid new opened none left (inr stays) stands = absurd (stays.0 opened)

-- where nothing is ready, or the top has ended
none_at : SettledLaws → OneSettled → AscentLaws → (old : PieceFinderState) (s : ScannerState) (at : Position) (cursor : CursorState) (new : PieceFinderState) → ready_in at ≡ false → ((fault : Fault) → at ≡ position.Fault fault → ⊥) → IsLeft old (piece_finder_state s at cursor) → Rests (piece_finder_state s at cursor) new → GivesNone old new
none_at laws one ascent old s (position.End passed) cursor new none fine left r = by r.goes r.stands
  where
    by_next : MayStandNext (piece_finder_state s (position.End passed) cursor) new → GivesNone old new
    by_next (inl n) = subst (GivesNone old) (sym n.same) (none_top laws ascent old s passed cursor n.start n.here left)
    by_next (inr n) = absurd (n.0 refl)

    by : MayLetLineGo (piece_finder_state s (position.End passed) cursor) r.mid → MayStandNext r.mid new → GivesNone old new
    by (inl goes) stands = absurd (open_or_end _ goes.0 refl)
    by (inr stays) stands = by_next (subst (λ (m : PieceFinderState). MayStandNext m new) stays.1 stands)
none_at laws one ascent old s (position.Fault fault) cursor new none fine left r = absurd (fine fault refl)
none_at laws one ascent old s (position.Unread start skip) cursor new none fine left r = absurd cc
none_at laws one ascent old s (position.Between skip) cursor new none fine left r = going laws one ascent old (piece_finder_state s (position.Between skip) cursor) r.mid new refl refl left r.goes r.stands
none_at laws one ascent old s (position.Within p) cursor new none fine left r = going laws one ascent old (piece_finder_state s (position.Within p) cursor) r.mid new refl none left r.goes r.stands

-- a finder that is asked after the top
left_same : (old : PieceFinderState) → phase_in old.position ≡ phase.End → ready_in old.position ≡ false → IsLeft old old
left_same old at none = record { found = λ text values h. h; fed = refl; ended = refl; options = refl; given = refl; stays = λ top. top; was_fine = λ fault is. end_or_fault old.position fault at is; unsure = λ e. absurd (true_or_false _ none e) }

pub gives_none_at_top : SettledLaws → OneSettled → AscentLaws → (old new : PieceFinderState) → phase_in old.position ≡ phase.End → Rests old new → GivesNone old new
gives_none_at_top laws one ascent old new at rests = none_at laws one ascent old old.scanning old.position old.cursor new (end_not_ready old.position at) (λ fault is. end_or_fault old.position fault at is) (left_same old at (end_not_ready old.position at)) rests

-- bindings whose keys are all known are none, or don't begin with a new one
not_new : (s : CursorState) (left : List BindingValue) → list_all (knows_key s.options.unique s.keys) left ≡ true → are_left left ≡ true → ¬ (BeginsNew s left)
not_new s [] known some = absurd (true_or_false false refl some)
not_new s (b ∷ bs) known some = λ new. true_or_false _ new (first_known s b bs known)

-- nothing was left to take: the finder means the same, and nothing is ready
record IsThrough (mid f : PieceFinderState) : Type 0 where
  pub found : (text : List ℕ) (values : List BindingValue) → HasFoundIn mid text values → HasFoundIn f text values
  pub scanning : f.scanning ≡ mid.scanning
  pub cursor : f.cursor ≡ mid.cursor
  pub none : ready_in f.position ≡ false
  pub fine : ((fault : Fault) → mid.position ≡ position.Fault fault → ⊥) → (fault : Fault) → f.position ≡ position.Fault fault → ⊥
  pub fed : fed_by f ≡ fed_by mid
  pub unsure : has_ready mid ≡ true → ¬ (BeginsNew mid.cursor (left_in mid.position))

same_through : (s : ScannerState) (at : Position) (cursor : CursorState) (f : PieceFinderState) → ready_in at ≡ false → f ≡ piece_finder_state s at cursor → IsThrough (piece_finder_state s at cursor) f
same_through s at cursor f none is = subst (IsThrough (piece_finder_state s at cursor)) (sym is) (record { found = λ text values h. h; scanning = refl; cursor = refl; none = none; fine = λ fine. fine; fed = refl; unsure = λ ready. absurd (true_or_false _ none ready) })

line_through : (s : ScannerState) (p q r : PendingState) (cursor : CursorState) (f : PieceFinderState) → PassesBindings cursor p q → q.left ≡ [] → PassesBindings cursor q r → f ≡ piece_finder_state s (position.Within r) cursor → IsThrough (piece_finder_state s (position.Within p) cursor) f
line_through s p q r cursor f first none next is =
    let nothing : r.left ≡ [] = nothing_dropped next.dropped r.left (sym none ∙ next.split) in
    let all : p.left ≡ first.dropped = first.split ∙ ap (λ l. first.dropped ++ l) none ∙ append-nil first.dropped in
    subst (IsThrough (piece_finder_state s (position.Within p) cursor)) (sym is) (record {
      found = λ text values h.
          let w = h.reached in
          let mid = inside_passed text cursor w.lines w.line p q values h.stopped first w.inside in
          record { stopped = h.stopped; reached = record { lines = w.lines; line = w.line; released = w.released; ready = w.ready; known = w.known; inside = inside_passed text cursor w.lines w.line q r values h.stopped next mid } };
      scanning = refl;
      cursor = refl;
      none = ap are_left nothing;
      fine = λ fine fault e. open_or_fault (position.Within r) fault refl e;
      fed = refl;
      unsure = λ some. not_new cursor p.left (subst (λ (l : List BindingValue). list_all (knows_key cursor.options.unique cursor.keys) l ≡ true) (sym all) first.known) some;
    })

through : (s : ScannerState) (at : Position) (cursor : CursorState) (f : PieceFinderState) → is_unread at ≡ false → TakesRead (piece_finder_state s at cursor) (Ok None) f → IsThrough (piece_finder_state s at cursor) f
through s (position.Within p) cursor f read k =
    let looks = subst (λ (w : WalkerState). LooksAhead w k.walker) (k.takes.same ∙ ap (λ (c : CursorState). walker_state (position.Within k.takes.rest) c) k.takes.takes.2) k.looks in
    line_through s p k.takes.rest looks.rest cursor f k.takes.takes.0 k.takes.takes.1 looks.passes (k.same ∙ ap (λ (w : WalkerState). piece_finder_state s w.position w.cursor) looks.same)
through s (position.Unread start skip) cursor f read k = absurd cc
through s (position.Between skip) cursor f read k = same_through s (position.Between skip) cursor f refl (k.same ∙ ap (λ (w : WalkerState). piece_finder_state s w.position w.cursor) (subst (λ (w : WalkerState). LooksAhead w k.walker) k.takes.1 k.looks))
through s (position.End passed) cursor f read k = same_through s (position.End passed) cursor f refl (k.same ∙ ap (λ (w : WalkerState). piece_finder_state s w.position w.cursor) (subst (λ (w : WalkerState). LooksAhead w k.walker) k.takes.1 k.looks))
through s (position.Fault fault) cursor f read k = same_through s (position.Fault fault) cursor f refl (k.same ∙ ap (λ (w : WalkerState). piece_finder_state s w.position w.cursor) (subst (λ (w : WalkerState). LooksAhead w k.walker) k.takes.1 k.looks))

was_unsure : (old mid : PieceFinderState) → ReadsUnread old (Ok tt) mid → (has_ready mid ≡ true → ¬ (BeginsNew mid.cursor (left_in mid.position))) → has_ready old ≡ true → IsUnsure old
was_unsure old mid (inl read) unsure ready = inl read.0
was_unsure old mid (inr here) unsure ready = inr (subst (λ (f : PieceFinderState). ¬ (BeginsNew f.cursor (left_in f.position))) here.2 (unsure (ap has_ready here.2 ∙ ready)))

none_by : SettledLaws → OneSettled → AscentLaws → (old mid f new : PieceFinderState) (r : Result (Unit {0}) FindError) → phase_in old.position ≡ phase.Open → ReadsUnread old r mid → TakesAfter r mid (Ok None) f → Rests f new → GivesNone old new
none_by laws one ascent old mid f new (Ok done) opened reads after rests =
    let so = unread_so old mid opened reads in
    let t = through mid.scanning mid.position mid.cursor f (unread_read old mid reads) after in
    let left : IsLeft old f = record {
      found = λ text values h. t.found text values (unread_found laws old mid text values (Ok tt) reads h);
      fed = t.fed ∙ so.fed ∙ sym (fed_open old opened);
      ended = ap (λ (s : ScannerState). s.ended) (t.scanning ∙ so.scanning);
      options = ap (λ (c : CursorState). c.options) (t.cursor ∙ so.cursor);
      given = ap (λ (c : CursorState). c.given) (t.cursor ∙ so.cursor);
      stays = λ top. absurd (open_or_end _ opened top);
      was_fine = λ fault is. open_or_fault old.position fault opened is;
      unsure = was_unsure old mid reads t.unsure;
    } in
    none_at laws one ascent old f.scanning f.position f.cursor new t.none (t.fine so.fine) left rests
none_by laws one ascent old mid f new (Err e) opened reads after rests = absurd (ok_or_error None e (Ok None) refl after.0)

-- nothing was ready
pub answers_none : SettledLaws → OneSettled → AscentLaws → (old f new : PieceFinderState) → phase_in old.position ≡ phase.Open → TakesReady old (Ok None) f → Rests f new → GivesNone old new
answers_none laws one ascent old f new opened t rests = none_by laws one ascent old t.mid f new t.read opened t.reads t.takes rests
