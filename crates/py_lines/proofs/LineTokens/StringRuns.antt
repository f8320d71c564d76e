-- The string that bytes begin with: the machine goes through it, from a line's start, and finishes it alone.
use Rattle.py_lines.proofs.Prelude.{◌≡◌, ℕ, ◌<◌, inl, inr, ◌==◌, ◌&&◌, ⊎_elim, true, false, Some, List, [], ◌∷◌, ◌++◌, length, refl, sym, ap, ◌∙◌, subst, append-nil, arith, encode_utf8_all, all_scalars, and_parts, both_ways, cases_Bool, cond_both, eqb-true, false_from_ne_true, is_line_feed, is_return, Class, begins, ends, line_end, string, Piece, spelled, literal, piece}
use Rattle.py_lines.specs.LogicalLine.{is_line_end_class}
use Rattle.py_lines.specs.Fields.{Fields, ShallowFields}
use Rattle.py_lines.specs.Private.Mode as modes
use Rattle.py_lines.specs.Private.Machine.{Mode, class_of, is_final, long_move, move_of, short_move}
use Rattle.py_lines.specs.Private.FieldMachine.{FieldMode, FieldMove, FieldScanned, Level, between, body, breaks, empty, field_closed, field_fresh, field_move, field_moved, field_pieces, field_started, field_state, field_step, field_steps_from, frames, grows, has_room, host_of, begins_host, may_end, opened, plain, plain_move, room_step}
use Rattle.py_lines.specs.Private.Scan.{Goes, ends_line, has_returned, is_return_at, is_shut}
use Rattle.py_lines.specs.Private.LineScan.{IsUnderWay, line_begun}
use Rattle.py_lines.specs.Private.LineTokens.{AreTextAt, BeginWithPiece}
use Rattle.py_lines.proofs.Fields.Nesting.{string_map}
use Rattle.py_lines.proofs.FieldMachine.CodeRuns.{ArePassed, all_found}
use Rattle.py_lines.proofs.FieldMachine.Completeness.{begin_shallow, shallow_run}
use Rattle.py_lines.proofs.FieldMachine.OuterLists.{outer_alone, outer_done, outer_pieces}
use Rattle.py_lines.proofs.FieldMachine.Runs.{BelowLimit, Goes as GoesWithRoom, StopsAt, room_of, steps_of, stops-fresh}
use Rattle.py_lines.proofs.FieldMachine.StringRuns.{opened_moves}
use Rattle.py_lines.proofs.FieldMachine.WholeRuns.{RunsFrom, goes_runs, one_runs, roomy_parts, runs_parts}
use Rattle.py_lines.proofs.FieldScans.Moves.{BodyMoved, body_moved}
use Rattle.py_lines.proofs.FieldSoundness.Holds.{AtStart}
use Rattle.py_lines.proofs.Lexings.FirstLines.{piece_some}
use Rattle.py_lines.proofs.Lexings.LinePrefix.{Stays, line_stays, one_of}
use Rattle.py_lines.proofs.Lexings.OuterRuns.{found_on}
use Rattle.py_lines.proofs.LineScan.LineSteps.{EndsSo, ends_so, way_sound, return_at}
use Rattle.py_lines.proofs.LineTokens.Depths.{fields_less}
use Rattle.py_lines.proofs.LogicalLines.Cuts.{uncut}
use Rattle.py_lines.proofs.Machine.PieceSteps.{some_is}
use Rattle.py_lines.proofs.Machine.Starts.{start-feed}
use Rattle.py_lines.proofs.Pieces.PieceLists.{AreReadBefore-first}

-- where a line begins that is no text's first
abbrev pub line_free : FieldScanned
line_free = line_begun modes.Free

-- the bytes begin with this string: the machine passes it, finds that piece alone, and may stop before the rest
pub record BeginsString (bytes text : List ℕ) : Type 0 where
  pub more : List ℕ
  pub after : List ℕ
  pub scalars : all_scalars (text ++ more) ≡ true
  pub spell : encode_utf8_all (text ++ more) ≡ bytes
  pub some : 0 < length text
  pub to : FieldScanned
  pub runs : RunsFrom line_free text to
  pub outside : to.outer ≡ []
  pub bare : to.openers ≡ []
  pub pieces_are : field_pieces to ≡ piece string text ∷ []
  pub stops : StopsAt to.mode to.held (more ++ after)
  pub uncut : ends is_return text && begins is_line_feed (more ++ after) ≡ false

pub begins_string : (bytes : List ℕ) (p : Piece) → p.class ≡ string → BeginWithPiece bytes p → BeginsString bytes p.text
begins_string bytes p is begin =
    let at = subst (λ (k : Class). AreTextAt begin.depth bytes (piece k p.text ∷ begin.others)) is begin.text in
    let one : List Piece = piece string p.text ∷ [] in let rest = spelled begin.others ++ at.after in
    let less = fields_less 0 begin.depth (omega arith) in
    let passed : ArePassed BelowLimit ShallowFields 0 one
    = (λ opens. omega arith, λ here. string_map (ShallowFields begin.depth) (ShallowFields 0) less p.text (at.shallow.1 here), tt) in
    let found = all_found BelowLimit ShallowFields begin_shallow shallow_run Fields line_free one [] rest
    (AreReadBefore-first one begin.others at.after at.fit) refl passed refl (λ some. absurd (some refl)) (stops-fresh _) in
    let to : FieldScanned = field_state [] found.done [] found.mode found.held in
    let goes = subst (λ t. GoesWithRoom BelowLimit line_free t to) (append-nil p.text) found.goes in
    record {
      more = spelled begin.others;
      after = at.after;
      scalars = at.scalars;
      spell = at.spell;
      some = piece_some string p.text at.fit.0;
      to = to;
      runs = (steps_of BelowLimit line_free to p.text goes, room_of line_free to p.text goes);
      outside = refl;
      bare = refl;
      pieces_are = found.pieces_are;
      stops = found.stops;
      uncut = uncut string p.text rest at.fit.0 at.fit.1;
    }

-- what ends before a character may end before nothing
plain_end : (m : Mode) (c : ℕ) → plain_move (move_of m c) ≡ breaks → is_final m ≡ true
unfolding move_of short_move long_move
plain_end m c is = grind arith

break_end : (m : FieldMode) (held : List ℕ) (c : ℕ) → field_move m held c ≡ breaks → may_end m ≡ true
unfolding field_move
break_end (plain m) held c is =
    cond_both (begins_host m held c) (grows (opened (host_of held c))) (plain_move (move_of m c))
    (λ (v : FieldMove). v ≡ breaks → is_final m ≡ true) (λ h same. absurd (cc)) (λ h same. plain_end m c same) is
break_end (opened host) held c is = ⊎_elim (λ (quote : c == host.quote ≡ true). let clash : grows (empty host) ≡ breaks = rw quote at is in absurd (cc))
    (λ other.
    absurd (subst (BodyMoved host literal false between c) (sym (opened_moves host held c other) ∙ is)
    (body_moved host literal false between held c))) (cases_Bool (c == host.quote))
break_end (empty host) held c is = refl
break_end (body host place named at) held c is = absurd (subst (BodyMoved host place named at c) is (body_moved host place named at held c))

stops_end : (m : FieldMode) (held rest : List ℕ) → StopsAt m held rest → may_end m ≡ true
stops_end m held [] stops = stops
stops_end m held (c ∷ cs) stops = break_end m held c stops

-- where a string is the only piece, and may end, it is finished, or empty
string_shut : (text : List ℕ) (m : FieldMode) (outer : List Level) (done : List Piece) (held rest : List ℕ)
    → field_closed m done held ≡ piece string text ∷ [] → AtStart m outer done → StopsAt m held rest → is_shut m ≡ true
string_shut text m outer done held rest same begun stops = by m same begun (stops_end m held rest stops) where
  by : (m : FieldMode) → field_closed m done held ≡ piece string text ∷ [] → AtStart m outer done → may_end m ≡ true → is_shut m ≡ true
  by (plain modes.Start) same begun may = absurd (let none : done ≡ [] = begun.1 in cc)
  by (plain modes.Free) same begun may = refl
  by (plain (modes.Empty q)) same begun may = refl
  by (plain m) same begun may =
      let class = ap (λ (p : Piece). p.class) (one_of (piece string text) (piece (class_of m) held) done [] (sym same)).0 in
      absurd (first_of (grind arith, cc))
  by (empty host) same begun may = refl
  by m same begun may = absurd (both_ways _ refl may)

-- no piece is open, no bracket and no field, or an empty string is
abbrev pub IsShutAlone : FieldScanned → Type 0
IsShutAlone t = (is_shut t.mode ≡ true) × (frames t ≡ 0)

in_field : (l : Level) (ls : List Level) (done : List Piece) (openers : List ℕ) (m : FieldMode) (held : List ℕ) → (frames (field_state (l ∷ ls) done openers m held) == 0) ≡ true → ⊥
in_field l ls done openers m held is = omega (arith, eqb-true (frames (field_state (l ∷ ls) done openers m held)) 0 is)

module _ {bytes text : List ℕ} (b : BeginsString bytes text) where
  -- from where it has come in the string the machine goes on to its end
  pub runs_left : (t : FieldScanned) (read z : List ℕ) → Goes line_free read t → text ≡ read ++ z → RunsFrom t z b.to
  runs_left t read z goes at =
      let (m, first, second) = runs_parts line_free read z b.to (subst (λ x. RunsFrom line_free x b.to) at b.runs) in
      subst (λ (x : FieldScanned). RunsFrom x z b.to) (some_is m t (sym first.0 ∙ (goes_runs line_free read t goes).0)) second

  -- the pieces that it finishes begin the string alone
  found_there : outer_pieces b.to ≡ piece string text ∷ []
  found_there = (outer_alone b.to b.outside).3 ∙ b.pieces_are

  pub kept : (t : FieldScanned) (z : List ℕ) → RunsFrom t z b.to → (ps : List Piece) × (piece string text ∷ [] ≡ outer_done t ++ ps)
  kept t z runs = let found = found_on z t b.to runs.0 in (found.0, sym found_there ∙ found.1)

  -- none is a line end
  no_line : {front : List Piece} {last : Piece} → Stays front last (outer_pieces b.to) → ⊥
  no_line {front = front} stays =
      let one = one_of (piece string text) stays.line front stays.others (sym found_there ∙ stays.is) in
      both_ways _ refl (ap is_line_end_class (sym (sym stays.class ∙ ap (λ (p : Piece). p.class) one.0)))

  no_return : (outer : List Level) (done : List Piece) (openers : List ℕ) (m : FieldMode) (held z : List ℕ)
      → RunsFrom (field_state outer done openers m held) z b.to → has_returned (field_state outer done openers m held) ≡ false
  no_return [] done openers m held z runs =
      false_from_ne_true _ (λ is.
      let mode = return_at m (and_parts (is_return_at m) _ is).0 in
      no_line (line_stays m done openers held z b.to done (piece line_end held) runs.0 (ap (λ n. field_closed n done held) mode) refl))
  no_return (l ∷ ls) done openers m held z runs = false_from_ne_true _ (λ is. in_field l ls done openers m held (and_parts (is_return_at m) _ is).1)

  no_end : (outer : List Level) (done : List Piece) (openers : List ℕ) (m : FieldMode) (held : List ℕ) (c : ℕ) (z : List ℕ) (next : FieldScanned)
      → field_step (field_state outer done openers m held) c ≡ Some next → RunsFrom next z b.to → ends_line (field_state outer done openers m held) c ≡ false
  no_end [] done openers m held c z next step runs =
      false_from_ne_true _ (λ is. by (ends_so c m (field_move m held c) (and_parts (frames (field_state [] done openers m held) == 0) _ is).1))
    where
      found : (front : List Piece) (line : Piece) → Some (field_fresh [] (front ++ line ∷ []) openers) ≡ Some next → line.class ≡ line_end → ⊥
      found front line is class =
          no_line (line_stays (plain modes.Free) (front ++ line ∷ []) openers [] z b.to front line (ap (λ o. field_steps_from o z) is ∙ runs.0) refl class)

      by : EndsSo c m (field_move m held c) → ⊥
      by (inl (returns, closing)) =
          found done (piece line_end (held ++ c ∷ [])) ((λ i. field_moved (field_state [] done openers (sym returns i) held) c (sym closing i)) ∙ step) refl
      by (inr (breaking, feeds)) =
          found (field_closed m done held) (piece line_end (c ∷ []))
          (sym (ap (field_started [] (field_closed m done held) openers c) (start-feed c feeds)) ∙ ap (field_moved (field_state [] done openers m held) c) (sym breaking) ∙ step) refl
  no_end (l ∷ ls) done openers m held c z next step runs = false_from_ne_true _ (λ is. in_field l ls done openers m held (and_parts _ _ is).0)

  -- no character of it ends a line
  pub record GoesOne (t : FieldScanned) (c : ℕ) (z : List ℕ) : Type 0 where
    open_yet : has_returned t ≡ false
    pub next : FieldScanned
    pub step : field_step t c ≡ Some next
    room : room_step t c ≡ Some next
    on : ends_line t c ≡ false
    pub runs : RunsFrom next z b.to

  pub goes_one : (t : FieldScanned) (c : ℕ) (z : List ℕ) → RunsFrom t (c ∷ z) b.to → GoesOne t c z
  goes_one t c z runs =
      let (next, first, others) = runs_parts t (c ∷ []) z b.to runs in let room = one_runs t c next first in
      let step = (roomy_parts (has_room t c) (field_step t c) next room).1 in
      record {
        open_yet = no_return t.outer t.done t.openers t.mode t.held (c ∷ z) runs;
        next = next;
        step = step;
        room = room;
        on = no_end t.outer t.done t.openers t.mode t.held c z next step others;
        runs = others;
      }

  pub along : (t : FieldScanned) (z : List ℕ) → RunsFrom t z b.to → Goes t z b.to
  along t [] runs = some_is t b.to runs.0
  along t (c ∷ z) runs = let o = goes_one t c z runs in (o.open_yet, o.next, o.room, o.on, along o.next z o.runs)

  way_at : IsUnderWay modes.Free text
  way_at = record { field = b.to; goes = along line_free text b.runs }

  -- at its end nothing is open
  pub shut_there : IsShutAlone b.to
  unfolding way_at
  shut_there = (
    string_shut text b.to.mode b.to.outer b.to.done b.to.held (b.more ++ b.after) b.pieces_are (way_sound way_at refl).start b.stops,
    omega (arith, ap length b.bare, ap (λ ls. frames (field_state ls b.to.done b.to.openers b.to.mode b.to.held)) b.outside),
  )

  -- and what follows ends it
  pub breaks_there : (d : ℕ) (y : List ℕ) → b.more ≡ d ∷ y → field_move b.to.mode b.to.held d ≡ breaks
  breaks_there d y is = subst (λ t. StopsAt b.to.mode b.to.held (t ++ b.after)) is b.stops
