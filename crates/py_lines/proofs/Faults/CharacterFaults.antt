-- Where the machine with fields can't go on, or has no room to, the text dies: its state and the character tell the cause of the
-- fault, and the fault's byte.
use Rattle.py_lines.proofs.Prelude.{⊎_elim, ◌≡◌, ℕ, Bool, true, false, not, ◌&&◌, ◌||◌, ◌==◌, List, [], ◌⊎◌, inl, inr, refl, sym, ap, ◌∙◌, subst, ◌+◌, None, Some, ◌∷◌, ◌++◌, length, append_assoc, append-nil, arith, ◌≤◌, nat_lt, if◌then◌else◌, codes, both_ways, cond_both, and_from, or_parts, or_from, not_from_false, eq-eqb, and_parts, eqb-true, ltb-false, append_cancel_right, is_quote, is_line_feed, is_return, is_break, operator, Piece, begins_marked, spelled, IsBalanced, is_opening, depth_after, depth_through, is_closing, byte_len, Host, Place, literal, specification, piece}
use Rattle.py_lines.specs.Private.Machine.{Mode, Move, Holds, move_of, short_move, long_move, start_of}
use Rattle.py_lines.specs.Private.Mode as modes
use Rattle.py_lines.specs.Private.FieldMachine.{roomy, room_step, text_place, At, between, after_brace, FieldMode, plain, opened, empty, body, FieldMove, breaks, begins_code, opens_field, ends_field, refused, Level, is_after_brace, body_move, field_move, plain_move, begins_host, in_open_short, after_open_backslash, InSpecificationOf, before, FieldScanned, field_state, field_fresh, field_text_start, field_moved, field_started, field_step, field_steps_from, levels_open, frames, has_room, has_room_at, have_room, grows, closes, field_pieces, opened_level}
use Rattle.py_lines.specs.Private.FieldFaults.{is_waiting, quotes_specification, cause_in, cause_place}
use Rattle.py_lines.proofs.FieldSoundness.Holds.{Limit, HoldsMode, IsFieldSound}
use Rattle.py_lines.proofs.FieldSoundness.BodyMoves.{Moved, body_moves}
use Rattle.py_lines.proofs.FieldSoundness.Lists.{not_specification}
use Rattle.py_lines.proofs.FieldSoundness.HostSteps.{opened_moves, sound_at}
use Rattle.py_lines.proofs.FieldMachine.WholeRuns.{stops_there}
use Rattle.py_lines.proofs.FieldSoundness.LiveTexts.{quotes_at, goes_live, steps-append}
use Rattle.py_lines.specs.Fields.{HasNoColon, fielded}
use Rattle.py_lines.specs.Faults.{DiesAt, IsAtDepth, InShortSpecification, IsFieldDue, OpensBraceTooDeep, BreaksString, OpensTooDeep, Cause, brace_too_deep, breaks_string, breaks_join, closes_wrong, opens_too_deep, ends_specification, begins_nothing, kind_of_cause, Explains, causes_before, NoneExplains, IsCharacterFault, open_short, open_join}
use Rattle.py_lines.specs.OpenFields.{BeginsList, InSpecification}
use Rattle.py_lines.proofs.Pieces.PieceLists.{spelled-push, AreReadIn-first}
use Rattle.py_lines.proofs.FieldSoundness.WholeTexts.{no_limit, any_rooms, two_hundred}
use Rattle.py_lines.proofs.FieldSoundness.OpenEnds.{are_begun, list_begins, specification_is_open}
use Rattle.py_lines.proofs.Text.CharacterTests.{none_of, each_of, break-not-others}
use Rattle.py_lines.proofs.Machine.Starts.{start-operator, start-feed, start-return}
use Rattle.py_lines.proofs.Pieces.OpenBrackets.{depth_through-append, depth-opener}
use Rattle.py_lines.proofs.FieldSoundness.OpenLists.{opens-depth}
use Rattle.py_lines.proofs.FieldMachine.ListBrackets.{opening_pushes, none_some}
use Rattle.py_lines.proofs.FieldMachine.PieceRuns.{IsNoColon, opening_operator, operator_stays}
use Rattle.py_lines.proofs.Faults.EndFaults.{no_brace_at, EndsSo, due_at, brace_is_due, few_frames}
use Rattle.py_lines.proofs.FieldMachine.WhatIsOpen.{comes_to, specification_comes, backslash_comes}
use Rattle.py_lines.proofs.Faults.Ends.{brace_more, short_unfinished, join_unfinished, deep_state, sound_to, text_is, open_now, end_named, specification_says, specification_named}

-- a short string is open here, or a specification of one
abbrev pub IsShortHere : FieldMode → Type 0
IsShortHere m = (in_open_short m ≡ true) ⊎ ((host : Host) × InSpecificationOf host m × (host.is_long ≡ false))

-- a character that is refused is a line end there, or follows a backslash, or is the quote of the string of a specification
abbrev pub Refuses : FieldMode → ℕ → Type 0
Refuses m c = ((is_break c ≡ true) × IsShortHere m)
    ⊎ (((after_open_backslash m ≡ true) × (is_break c ≡ false)) ⊎ ((quotes_specification m c ≡ true) × (is_quote c ≡ true)))

abbrev pub Reason : FieldMode → ℕ → FieldMove → Type 0
Reason m c refused = Refuses m c
Reason m c (begins_code host) = is_waiting m ≡ true
Reason m c (opens_field host) = (c ≡ 123) × (text_place m ≡ specification)
Reason m c ends_field = (c ≡ 125) × (text_place m ≡ specification)
Reason m c other = Unit {0}

not_break : (c : ℕ) → is_line_feed c ≡ false → is_return c ≡ false → is_break c ≡ false
unfolding is_break is_line_feed is_return
not_break c feed return = or_from (c == 10) ((c == 13) || false) (or_parts (c == 10) false feed).0 return

-- in a piece without fields
abbrev PlainReason : Mode → ℕ → Move → Type 0
PlainReason m c v = Reason (plain m) c (plain_move v)

either : (m : Mode) (c : ℕ) (b : Bool) (v w : Move) → (b ≡ true → PlainReason m c v) → (b ≡ false → PlainReason m c w) → PlainReason m c (if b then v else w)
either m c b v w = cond_both b v w (PlainReason m c)

plain_reason : (m : Mode) (held : List ℕ) (c : ℕ) → Holds m [] held → PlainReason m c (move_of m c)
unfolding move_of short_move long_move
plain_reason modes.Backslash held c holds = search (either, not_break, inl, inr) depth 8
plain_reason m held c holds = search (either, inl, inr) depth 8

-- in a string with fields where no `{` waits, by what the character does there
moved_reason : (limit : Limit) (outer : List Level) (depth : ℕ) (host : Host) (place : Place) (m : FieldMode) (held : List ℕ) (c : ℕ) (v : FieldMove) → text_place m ≡ place → (host.is_long ≡ false → IsShortHere m) → (place ≡ specification → c ≡ host.quote → quotes_specification m c ≡ true) → is_quote host.quote ≡ true → Moved limit outer depth host place false held c v → Reason m c v
moved_reason limit outer depth host place m held c (begins_code h) at short quoted quotes moved = absurd (both_ways _ refl moved.0)
moved_reason limit outer depth host place m held c (opens_field h) at short quoted quotes moved = (moved.1, at ∙ moved.0)
moved_reason limit outer depth host place m held c ends_field at short quoted quotes moved = (moved.1, at ∙ moved.0)
moved_reason limit outer depth host place m held c refused at short quoted quotes (inl (break, is_short)) = inl (break, short is_short)
moved_reason limit outer depth host place m held c refused at short quoted quotes (inr (there, same)) = inr (inr (quoted there same, ap is_quote same ∙ quotes))
moved_reason limit outer depth host place m held c v at short quoted quotes moved = tt

-- so in its body
short_body : (host : Host) (place : Place) (named : Bool) (at : At) → is_after_brace at ≡ false → host.is_long ≡ false → IsShortHere (body host place named at)
short_body host literal named at apart short = inl (and_from _ _ (not_from_false (is_after_brace at) apart) (not_from_false host.is_long short))
short_body host specification named at apart short = inr (host, (refl, apart), short)

quoted_body : (host : Host) (place : Place) (named : Bool) (at : At) (c : ℕ) → place ≡ specification → c ≡ host.quote → quotes_specification (body host place named at) c ≡ true
quoted_body host literal named at c there same = not_specification there
quoted_body host specification named at c there same = eq-eqb c host.quote same

-- in each mode
pub reason : (limit : Limit) (outer : List Level) (depth : ℕ) (m : FieldMode) (held : List ℕ) (c : ℕ) → HoldsMode limit outer depth m held → Reason m c (field_move m held c)
unfolding field_move body_move
reason limit outer depth (plain m) held c holds = cond_both (begins_host m held c) _ _ (Reason (plain m) c) (λ h. tt) (λ h. plain_reason m held c holds.0)
reason limit outer depth (opened host) held c holds = cond_both (c == host.quote) _ _ (Reason (opened host) c) (λ h. tt)
    (λ other. moved_reason limit outer depth host literal (opened host) held c (body_move host literal false between c) refl (λ short. inl refl) (λ there. not_specification there) holds.1 (opened_moves limit outer depth host held c holds other))
reason limit outer depth (empty host) held c holds = cond_both (c == host.quote) _ breaks (Reason (empty host) c) (λ h. tt) (λ h. tt)
reason limit outer depth (body host place named after_brace) held c holds =
    cond_both (c == 123) _ _ (Reason (body host place named after_brace) c) (λ k. tt) (λ k. ap (λ p. is_waiting (body host p named after_brace)) holds.2)
reason limit outer depth (body host place named at) held c holds =
    moved_reason limit outer depth host place (body host place named at) held c (body_move host place named at c) refl (short_body host place named at refl) (quoted_body host place named at c)
    (quotes_at limit outer depth host place named at held holds) (body_moves limit outer depth host place named at held c holds)

-- the first pieces of a list that has one more
first_unmarked : (ps : List Piece) (p : Piece) → begins_marked (ps ++ p ∷ []) ≡ false → begins_marked ps ≡ false
first_unmarked [] p h = refl
first_unmarked (q ∷ ps) p h = h

first_colons : (depth : ℕ) (ps : List Piece) (p : Piece) → HasNoColon depth (ps ++ p ∷ []) → HasNoColon depth ps
first_colons depth [] p h = tt
first_colons depth (q ∷ ps) p h = (h.0, first_colons (depth_after depth q) ps p h.1)

-- pieces before a bracket that has opened are those before its character
at_depth : (outer : List Level) (ps : List Piece) (openers read : List ℕ) (c : ℕ) → IsFieldSound no_limit (field_fresh outer (ps ++ piece operator (c ∷ []) ∷ []) openers) (read ++ c ∷ []) → IsAtDepth read c (levels_open outer + depth_through 0 ps)
at_depth outer ps openers read c sound =
    let p : Piece = piece operator (c ∷ []) in
    let begun = are_begun no_limit outer literal (ps ++ p ∷ []) openers [] [] sound.list in
    let text : spelled (ps ++ p ∷ []) ≡ spelled ps ++ c ∷ [] = spelled-push ps operator (c ∷ []) in record {
      outside = before literal outer;
      base = levels_open outer;
      pieces = ps;
      list = subst (λ t. BeginsList (before literal outer) t (levels_open outer)) (append-nil (spelled (ps ++ p ∷ []) ++ []) ∙ append-nil (spelled (ps ++ p ∷ [])) ∙ text)
          (list_begins no_limit outer (spelled (ps ++ p ∷ []) ++ []) [] sound.levels);
      begun = record {
        fit = AreReadIn-first fielded ps (p ∷ []) [] begun.fit;
        others = p ∷ begun.others;
        balanced = subst IsBalanced (append_assoc ps (p ∷ []) begun.others) begun.balanced;
        inside = λ deep. let own = begun.inside deep in (first_unmarked ps p own.0, first_colons 0 ps p own.1);
      };
      spell = append_cancel_right (before literal outer ++ spelled ps) read (c ∷ [])
          (append_assoc (before literal outer) (spelled ps) (c ∷ []) ∙ ap (λ t. before literal outer ++ t) (sym text ∙ sym (append-nil (spelled (ps ++ p ∷ [])))) ∙ sound.spell);
      deep = refl;
    }

opening_stays : (outer : List Level) (openers : List ℕ) (c : ℕ) → is_opening c ≡ true → IsNoColon outer openers c
unfolding is_opening
opening_stays [] openers c opens = tt
opening_stays (level ∷ outer) openers c opens = ap (λ b. b && (length openers == 0)) (none_of (λ d. d == 58) (40 ∷ 91 ∷ 123 ∷ []) c refl opens)

-- what keeps a character from going on
abbrev pub IsStuck : FieldScanned → ℕ → Type 0
IsStuck s c = (field_step s c ≡ None) ⊎ (has_room s c ≡ false)

pub goes_free : (s next : FieldScanned) (c : ℕ) (v : FieldMove) → field_move s.mode s.held c ≡ v → field_moved s c v ≡ Some next → has_room_at (frames s) c v ≡ true → IsStuck s c → ⊥
goes_free s next c v is moved room (inl none) = none_some (sym none ∙ ap (field_moved s c) is ∙ moved)
goes_free s next c v is moved room (inr full) = both_ways _ full (ap (has_room_at (frames s) c) is ∙ room)

module _ (s : FieldScanned) (read : List ℕ) (c : ℕ) (sound : IsFieldSound two_hundred s read) (steps : field_steps_from (Some field_text_start) read ≡ Some s) where
  -- the place before a bracket that opens
  pub bracket_at : (outer : List Level) (ps : List Piece) (os : List ℕ) → is_opening c ≡ true → field_step s c ≡ Some (field_fresh outer (ps ++ piece operator (c ∷ []) ∷ []) (c ∷ os)) → length os + levels_open outer ≡ 200 → IsAtDepth read c 200
  bracket_at outer ps os opens step full = let next : FieldScanned = field_fresh outer (ps ++ piece operator (c ∷ []) ∷ []) (c ∷ os) in
      let later : field_steps_from (Some field_text_start) (read ++ c ∷ []) ≡ Some next =
      steps-append (Some field_text_start) read (c ∷ []) ∙ ap (λ o. field_steps_from o (c ∷ [])) steps ∙ ap (λ o. field_steps_from o []) step in
      let own = sound_at no_limit (read ++ c ∷ []) next (any_rooms (Some field_text_start) (read ++ c ∷ [])) later in let p : Piece = piece operator (c ∷ []) in
      let whole = opens-depth (c ∷ os) (ps ++ p ∷ []) 0 own.list.opens in
      let pushed = depth_through-append 0 ps (p ∷ []) ∙ depth-opener (depth_through 0 ps) p opens in
      subst (IsAtDepth read c) (omega (arith, whole, pushed, full)) (at_depth outer ps (c ∷ os) read c own)

  pub started : (outer : List Level) (ps : List Piece) (os : List ℕ) → is_opening c ≡ true → field_started outer ps os c (start_of c) ≡ Some (field_fresh outer (ps ++ piece operator (c ∷ []) ∷ []) (c ∷ os))
  started outer ps os opens = ap (field_started outer ps os c) (start-operator c (opening_operator c opens)) ∙ operator_stays outer ps os (c ∷ os) c (opening_pushes os c opens) (opening_stays outer os c opens)

  -- a line end in a specification of a short string
  pub short_specification : (m : FieldMode) (host : Host) → InSpecificationOf host m → host.is_long ≡ false → IsFieldSound two_hundred (field_state s.outer s.done s.openers m s.held) read → (start : List ℕ) × InShortSpecification read start
  short_specification (body other specification named at) host is short own =
      let found = specification_is_open two_hundred s.outer s.done s.openers other named at s.held read own (no_brace_at s.outer (frames s) s.held other named at own.mode) in
      (found.1.string, record { host = other; field = found.0; inside = found.1; short = ap (λ (h : Host). h.is_long) is.0 ∙ short; before = refl })
  short_specification m host is short own = absurd is

  pub specification_mode : (host : Host) (start : List ℕ) → InSpecification host read start → InSpecificationOf host s.mode
  specification_mode host start is = (comes_to read _ s (specification_comes host read start is) steps).0.mode_is

-- where the machine stops, the text has a fault: at the first character that it refuses, or that has no room
pub stuck_dies : (read : List ℕ) (c : ℕ) (after : List ℕ) (s : FieldScanned) → field_steps_from (Some field_text_start) read ≡ Some s → have_room (Some field_text_start) read ≡ true → IsStuck s c → DiesAt (read ++ c ∷ after) read c
stuck_dies read c after s steps room stuck =
    record { after = after; spell = refl; live = goes_live read s steps room; dead = stops_there read s c (steps, room) (no_step stuck) }
  where
    none_roomy : (b : Bool) → roomy b None ≡ None
    none_roomy b = grind arith

    no_step : IsStuck s c → room_step s c ≡ None
    no_step (inl none) = ap (roomy (has_room s c)) none ∙ none_roomy (has_room s c)
    no_step (inr none) = ap (λ b. roomy b (field_step s c)) none

-- a line end begins a piece
break_starts : (outer : List Level) (ps : List Piece) (os : List ℕ) (c : ℕ) → is_break c ≡ true → field_started outer ps os c (start_of c) ≡ None → ⊥
unfolding is_break is_line_feed is_return
break_starts outer ps os c = each_of (λ d. field_started outer ps os d (start_of d) ≡ None → ⊥) (codes "\n\r") c (
  λ none. none_some (sym none ∙ ap (field_started outer ps os 10) (start-feed 10 refl)),
  (λ none. none_some (sym none ∙ ap (field_started outer ps os 13) (start-return 13 refl)), tt),
)

-- where a `{` waits and the character is stuck, it is no second one
not_second : (host : Host) (named : Bool) (held : List ℕ) (c : ℕ) → ((n : FieldMode) → field_move (body host literal named after_brace) held c ≡ grows n → ⊥) → c == 123 ≡ false
unfolding field_move body_move
not_second host named held c = cond_both (c == 123) (grows (body host literal named between)) (begins_code host) (λ v. ((n : FieldMode) → v ≡ grows n → ⊥) → c == 123 ≡ false) (λ h none. absurd (none _ refl)) (λ other none. other)

module _ (read : List ℕ) (s : FieldScanned) (steps : field_steps_from (Some field_text_start) read ≡ Some s) (room : have_room (Some field_text_start) read ≡ true) where
  -- where a cause fits, its byte is that of the state
  pub place_is : (cause : Cause) (c offset : ℕ) → Explains cause read c offset → offset ≡ cause_place s cause
  place_is brace_too_deep c offset fits = omega (arith, fits.place, brace_more fits.start read fits.spell, text_is read s steps room)
  place_is breaks_string c offset fits = ⊎_elim (λ short. (end_named read s steps room open_short offset (fits.start, short, fits.place)).1)
      (λ is. let own = comes_to read _ s (specification_comes is.host read is.field is.inside) steps in
      fits.place ∙ ap byte_len (sym (own.0.string_is ∙ own.1 ∙ is.before)) ∙ ap (λ p. byte_len (before p s.outer ++ spelled s.done)) (sym (specification_says s.outer s.openers is.host s.mode own.0.mode_is).2)) fits.inside
  place_is breaks_join c offset fits = (end_named read s steps room open_join offset (fits.start, fits.after, fits.place)).1
  place_is ends_specification c offset fits = let own = comes_to read _ s (specification_comes fits.host read fits.start fits.inside) steps in
      let found = specification_named read s steps room fits.host fits.start offset own.0 fits.place in
      let place = rw ((specification_says s.outer s.openers fits.host s.mode own.0.mode_is).1) at found.1 in omega (arith, place)
  place_is begins_nothing c offset fits = fits ∙ sym (text_is read s steps room)
  place_is cause c offset fits = fits.place ∙ sym (text_is read s steps room)

-- a character that has no room opens a bracket, at depth 200 with the field whose code it begins
begun_room : (opens : Bool) (depth : ℕ) → not opens || nat_lt depth 200 ≡ false → depth ≤ 200 → (opens ≡ true) × (depth ≡ 200)
begun_room true depth full few = (refl, omega (arith, few, ltb-false depth 200 full))
begun_room false depth full few = absurd (both_ways _ full refl)

code_room : (opens : Bool) (depth : ℕ) → nat_lt (if opens then depth + 1 else depth) 200 ≡ false → depth ≤ 200 → (200 ≤ depth → ⊥) → (opens ≡ true) × (depth + 1 ≡ 200)
code_room true depth full few fewer = let many = ltb-false (depth + 1) 200 full in (refl, omega (arith, few, fewer, many))
code_room false depth full few fewer = absurd (fewer (ltb-false depth 200 full))

-- Why a character is stuck, where no `{` waits at depth 200: it begins no piece, or a bracket too deep; it opens a field too deep; it
-- is the `}` of a specification; or it is refused.
data Why (s : FieldScanned) (c : ℕ) : Type 0 where
  begins : (outer : List Level) (ps : List Piece) (os : List ℕ) → field_step s c ≡ field_started outer ps os c (start_of c) → (field_step s c ≡ None) ⊎ ((is_opening c ≡ true) × (length os + levels_open outer ≡ 200)) → Why s c
  deep_field : (h : Host) → field_move s.mode s.held c ≡ opens_field h → frames s ≡ 200 → Why s c
  closes_field : c ≡ 125 → text_place s.mode ≡ specification → Why s c
  refuses : Refuses s.mode c → Why s c

module _ (s : FieldScanned) (read : List ℕ) (c : ℕ) (after : List ℕ) (steps : field_steps_from (Some field_text_start) read ≡ Some s) (room : have_room (Some field_text_start) read ≡ true) (stuck : IsStuck s c) where
  sound : IsFieldSound two_hundred s read
  sound = sound_to read s steps room

  few : frames s ≤ 200
  few = few_frames s.outer s.done s.openers s.mode s.held read sound

  -- a character that goes on is not stuck
  no_grows : (n : FieldMode) → field_move s.mode s.held c ≡ grows n → ⊥
  unfolding has_room_at
  no_grows n is = goes_free s _ c (grows n) is refl refl stuck

  reason_is : (v : FieldMove) → field_move s.mode s.held c ≡ v → Reason s.mode c v
  reason_is v is = subst (Reason s.mode c) is (reason two_hundred s.outer (frames s) s.mode s.held c sound.mode)

  -- a `{` that waits at depth 200
  abbrev is_deep : Bool
  is_deep = is_waiting s.mode && (frames s == 200)

  brace_fits : is_deep ≡ true → (offset : ℕ) × OpensBraceTooDeep read (c ∷ []) offset
  brace_fits is = go s.mode (and_parts (is_waiting s.mode) (frames s == 200) is).0 no_grows sound where
    go : (m : FieldMode) → is_waiting m ≡ true → ((n : FieldMode) → field_move m s.held c ≡ grows n → ⊥) → IsFieldSound two_hundred (field_state s.outer s.done s.openers m s.held) read → (offset : ℕ) × OpensBraceTooDeep read (c ∷ []) offset
    go (body host literal named after_brace) waits none own =
        brace_is_due two_hundred s.outer s.done s.openers host named s.held read own (c ∷ []) (not_second host named s.held c none) (eqb-true (frames s) 200 (and_parts (is_waiting s.mode) (frames s == 200) is).1)
    go m waits none own = absurd (both_ways _ refl waits)

  not_deep : is_deep ≡ false → is_waiting s.mode ≡ true → 200 ≤ frames s → ⊥
  not_deep other waits many = let full : frames s ≡ 200 = omega (arith, few, many) in both_ways _ other (and_from _ _ waits (eq-eqb (frames s) 200 full))

  why : is_deep ≡ false → Why s c
  unfolding has_room_at
  why shallow = go (field_move s.mode s.held c) refl stuck where
    go : (v : FieldMove) → field_move s.mode s.held c ≡ v → IsStuck s c → Why s c
    go (grows n) is at = absurd (no_grows n is)
    go closes is at = absurd (goes_free s _ c closes is refl refl stuck)
    go breaks is (inl none) = Why.begins s.outer (field_pieces s) s.openers (ap (field_moved s c) is) (inl none)
    go breaks is (inr full) = Why.begins s.outer (field_pieces s) s.openers (ap (field_moved s c) is) (inr (begun_room (is_opening c) (frames s) (sym (ap (has_room_at (frames s) c) is) ∙ full) few))
    go (begins_code h) is (inl none) = Why.begins (opened_level s h literal s.held ∷ s.outer) [] [] (ap (field_moved s c) is) (inl none)
    go (begins_code h) is (inr full) =
        let room = code_room (is_opening c) (frames s) (sym (ap (has_room_at (frames s) c) is) ∙ full) few (not_deep shallow (reason_is (begins_code h) is)) in
        Why.begins (opened_level s h literal s.held ∷ s.outer) [] [] (ap (field_moved s c) is) (inr (room.0, omega (arith, room.1)))
    go (opens_field h) is (inl none) = absurd (none_some (sym none ∙ ap (field_moved s c) is))
    go (opens_field h) is (inr full) = Why.deep_field h is (omega (arith, few, ltb-false (frames s) 200 (sym (ap (has_room_at (frames s) c) is) ∙ full)))
    go ends_field is at = Why.closes_field (reason_is ends_field is).0 (reason_is ends_field is).1
    go refused is at = Why.refuses (reason_is refused is)

  -- a line end is refused where a short string is open, or a specification of one
  pub short_here : is_deep ≡ false → is_break c ≡ true → IsShortHere s.mode
  unfolding is_opening is_closing
  short_here shallow break = by (why shallow) where
    by : Why s c → IsShortHere s.mode
    by (Why.begins outer ps os step (inl none)) = absurd (break_starts outer ps os c break (sym step ∙ none))
    by (Why.begins outer ps os step (inr (opens, full))) = absurd (both_ways _ (break-not-others c break).0 opens)
    by (Why.deep_field h is full) = absurd (both_ways _ (break-not-others c break).0 (ap is_opening (reason_is (opens_field h) is).0))
    by (Why.closes_field brace at) = absurd (both_ways _ (break-not-others c break).1 (ap is_closing brace))
    by (Why.refuses (inl (at, short))) = short
    by (Why.refuses (inr (inl (slash, other)))) = absurd (both_ways _ other break)
    by (Why.refuses (inr (inr (same, quotes)))) = absurd (both_ways _ (break-not-others c break).2 quotes)

  -- a line end that is refused
  break_fits : is_deep ≡ false → is_break c ≡ true → (offset : ℕ) × BreaksString read c offset
  break_fits shallow break = ⊎_elim
      (λ short. let (offset, (start, is, place)) = subst (EndsSo s read) (short_unfinished s.outer s.openers s.mode short).0 (open_now read s steps room) in
      (offset, record { start = start; breaks = break; inside = inl is; place = place }))
      (λ (host, is, short). let own = short_specification s read c sound steps s.mode host is short sound in
      (byte_len own.0, record { start = own.0; breaks = break; inside = inr own.1; place = refl })) (short_here shallow break)

  -- the character opens a field at depth 200, in a specification
  opens_due : (m : FieldMode) (h : Host) → text_place m ≡ specification → field_move m s.held c ≡ opens_field h → IsFieldSound two_hundred (field_state s.outer s.done s.openers m s.held) read → frames s ≡ 200 → IsFieldDue specification 200 read []
  unfolding field_move
  opens_due (body host specification named at) h place is own full =
      let moved = subst (Moved two_hundred s.outer (frames s) host specification (is_after_brace at) s.held c) is (body_moves two_hundred s.outer (frames s) host specification named at s.held c own.mode) in
      let due = due_at two_hundred s.outer s.done s.openers (body host specification named at) s.held read own h specification s.held [] (123 ∷ []) refl refl (λ same. refl) moved.2 in
      subst (λ n. IsFieldDue specification n read []) full (subst (λ t. IsFieldDue specification (frames s) t []) own.spell due)
  opens_due m h place is own full = not_specification place

  -- an opening bracket that is refused, or the `{` of a field
  opening_fits : is_deep ≡ false → is_break c ≡ false → after_open_backslash s.mode ≡ false → is_closing c ≡ false → is_opening c ≡ true → (offset : ℕ) × OpensTooDeep read c offset
  unfolding is_closing is_opening is_quote
  opening_fits shallow no_break no_slash no_closing opens = by (why shallow) where
    by : Why s c → (offset : ℕ) × OpensTooDeep read c offset
    by (Why.begins outer ps os step (inl none)) = absurd (none_some (sym none ∙ step ∙ started s read c sound steps outer ps os opens))
    by (Why.begins outer ps os step (inr (also, full))) =
        (byte_len read, record { opens = opens; deep = inl (bracket_at s read c sound steps outer ps os opens (step ∙ started s read c sound steps outer ps os opens) full); place = refl })
    by (Why.deep_field h is full) =
        (byte_len read, record { opens = opens; deep = inr ((reason_is (opens_field h) is).0, opens_due s.mode h (reason_is (opens_field h) is).1 is sound full); place = refl })
    by (Why.closes_field brace at) = absurd (both_ways _ no_closing (ap is_closing brace))
    by (Why.refuses (inl (break, short))) = absurd (both_ways _ no_break break)
    by (Why.refuses (inr (inl (slash, other)))) = absurd (both_ways _ no_slash slash)
    by (Why.refuses (inr (inr (same, quotes)))) = absurd (both_ways _ (none_of is_quote (codes "([{") c refl opens) quotes)

  -- what follows a backslash
  join_fits : after_open_backslash s.mode ≡ true → (offset : ℕ) × Explains breaks_join read c offset
  join_fits slash = let (offset, (start, is, place)) = subst (EndsSo s read) (join_unfinished s.outer s.openers s.mode slash).0 (open_now read s steps room) in
      (offset, record { start = start; after = is; place = place })

  -- the quote of the string of a specification
  end_back : (offset : ℕ) → Explains ends_specification read c offset → quotes_specification s.mode c ≡ true
  end_back offset fits = quoted s.mode (specification_mode s read c sound steps fits.host fits.start fits.inside) where
    quoted : (m : FieldMode) → InSpecificationOf fits.host m → quotes_specification m c ≡ true
    quoted (body host specification named at) is = eq-eqb c host.quote (fits.quotes ∙ ap (λ (h : Host). h.quote) (sym is.0))
    quoted m is = absurd is

  end_fits : quotes_specification s.mode c ≡ true → (offset : ℕ) × Explains ends_specification read c offset
  end_fits is = go s.mode is sound where
    go : (m : FieldMode) → quotes_specification m c ≡ true → IsFieldSound two_hundred (field_state s.outer s.done s.openers m s.held) read → (offset : ℕ) × Explains ends_specification read c offset
    go (body host specification named at) same own =
        let found = specification_is_open two_hundred s.outer s.done s.openers host named at s.held read own (no_brace_at s.outer (frames s) s.held host named at own.mode) in
        (byte_len found.0, record { host = host; start = found.0; inside = found.1; quotes = eqb-true c host.quote same; place = refl })
    go m same own = absurd (both_ways _ refl same)

  -- a fault whose cause fits, where none before it does
  abbrev HasFault : Cause → Type 0
  HasFault cause = IsCharacterFault (kind_of_cause cause) (read ++ c ∷ after) (cause_place s cause)

  fault_of : (cause : Cause) → (offset : ℕ) × Explains cause read c offset → NoneExplains (causes_before cause) read c → HasFault cause
  fault_of cause (offset, fits) first =
      record { cause = cause; before = read; c = c; is = refl; dies = stuck_dies read c after s steps room stuck; fits = subst (Explains cause read c) (place_is read s steps room cause c offset fits) fits; first = first }

  abbrev Misfits : Cause → Type 0
  Misfits cause = (offset : ℕ) → ¬ (Explains cause read c offset)

  -- the first cause that fits is the one that the state tells
  pub cause_fits : IsCharacterFault (kind_of_cause (cause_in (frames s) s.mode c)) (read ++ c ∷ after) (cause_place s (cause_in (frames s) s.mode c))
  cause_fits = cond_both is_deep brace_too_deep _ HasFault (λ deep. fault_of brace_too_deep (brace_fits deep) tt)
      (λ shallow. let no_brace : Misfits brace_too_deep = λ offset fits.
      let at = deep_state read s (c ∷ []) offset steps fits in both_ways _ shallow (and_from _ _ at.0 (eq-eqb (frames s) 200 at.1)) in
      cond_both (is_break c) breaks_string _ HasFault (λ break. fault_of breaks_string (break_fits shallow break) (no_brace, tt))
      (λ no_break. let no_string : Misfits breaks_string = λ offset fits. both_ways _ no_break fits.breaks in
      cond_both (after_open_backslash s.mode) breaks_join _ HasFault (λ slash. fault_of breaks_join (join_fits slash) (no_brace, (no_string, tt)))
      (λ no_slash.
      let no_join : Misfits breaks_join = λ offset fits. both_ways _ no_slash (comes_to read _ s (backslash_comes read fits.start fits.after) steps).0 in
      cond_both (is_closing c) closes_wrong _ HasFault (λ closing. fault_of closes_wrong (byte_len read, record { closes = closing; place = refl }) (no_brace, (no_string, (no_join, tt))))
      (λ no_closing. let no_close : Misfits closes_wrong = λ offset fits. both_ways _ no_closing fits.closes in
      cond_both (is_opening c) opens_too_deep _ HasFault (λ opens. fault_of opens_too_deep (opening_fits shallow no_break no_slash no_closing opens) (no_brace, (no_string, (no_join, (no_close, tt)))))
      (λ no_opening. let no_limit : Misfits opens_too_deep = λ offset fits. both_ways _ no_opening fits.opens in
      cond_both (quotes_specification s.mode c) ends_specification begins_nothing HasFault
      (λ quotes. fault_of ends_specification (end_fits quotes) (no_brace, (no_string, (no_join, (no_close, (no_limit, tt))))))
      (λ no_quote. let no_end : Misfits ends_specification = λ offset fits. both_ways _ no_quote (end_back offset fits) in
      fault_of begins_nothing (byte_len read, refl) (no_brace, (no_string, (no_join, (no_close, (no_limit, (no_end, tt))))))))))))
