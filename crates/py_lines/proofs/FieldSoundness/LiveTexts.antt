-- Some text that begins with these characters is read with fields exactly where the machine with fields goes through them, and
-- each of them has room: from wherever it has come, the open piece, brackets and fields can be closed, and nothing more opens.
use Rattle.py_lines.proofs.Prelude.{◌≡◌, ◌==◌, ℕ, Bool, true, false, Some, List, [], ◌∷◌, ◌++◌, refl, sym, ap, ◌∙◌, subst, ◌&&◌, Option, None, all_scalars, and_from, both_ways, eq-eqb, and_parts, and_right, false_from_ne_true, and_assoc, arith, is_quote, is_line_feed, is_return, is_break, is_backslash, is_brace, is_opening, is_closing, closing_of, Host, Place, literal, specification, piece}
use Rattle.py_lines.specs.Piece.{operator, Piece, spelled, comment, line_end}
use Rattle.py_lines.specs.Private.Mode as modes
use Rattle.py_lines.specs.Private.Machine.{move_of, Holds, is_final, Mode}
use Rattle.py_lines.specs.Private.FieldMachine.{At, between, after_one, after_two, after_brace, FieldMode, plain, body, FieldMove, grows, closes, breaks, ends_field, Level, FieldScanned, field_state, field_fresh, between_move, escape_move, body_move, field_move, after_operator, field_operator, field_ended, field_started, field_moved, field_closed, may_end, frames, IsFieldFinal, opened, empty, field_text_start, begins_host, host_of, plain_move, field_step, field_steps_from, field_pieces, have_room, has_room}
use Rattle.py_lines.proofs.Text.CharacterTests.{not_quote}
use Rattle.py_lines.proofs.Text.Utf8Prefixes.{all_scalars-append}
use Rattle.py_lines.proofs.Pieces.OpenBrackets.{closing-not-opening}
use Rattle.py_lines.proofs.Machine.Starts.{start-operator}
use Rattle.py_lines.proofs.Machine.LiveTexts.{closing-operator, closing_of-closing, closing-scalar, quote-scalar, closing-not-quote, comment-breaks, feed-starts, completes}
use Rattle.py_lines.proofs.Machine.PieceSteps.{some_is}
use Rattle.py_lines.proofs.FieldMachine.Runs.{HasRoomFor, Goes, goes-append, goes-grows, goes-closes, goes-begins, BelowLimit, steps_of, room_of}
use Rattle.py_lines.proofs.FieldMachine.StringParts.{goes_on, body_moves, second_brace}
use Rattle.py_lines.proofs.FieldMachine.ListBrackets.{closing_pops, none_some}
use Rattle.py_lines.proofs.FieldMachine.CodeRuns.{end_moves, brace_ends}
use Rattle.py_lines.proofs.FieldSoundness.Holds.{Limit, HoldsLevels, HoldsAt, IsFieldSound}
use Rattle.py_lines.proofs.FieldMachine.PlainSteps.{plain_moves}
use Rattle.py_lines.proofs.FieldMachine.Completeness.{reading_reached}
use Rattle.py_lines.proofs.FieldSoundness.HostSteps.{sound_at}
use Rattle.py_lines.proofs.FieldSoundness.OpenEnds.{at_open}
use Rattle.py_lines.proofs.FieldSoundness.WholeTexts.{two_hundred, rooms_at, final_is_reading}
use Rattle.py_lines.proofs.FieldMachine.StringRuns.{second_quote}
use Rattle.py_lines.specs.Faults.{IsLive}

-- a mode in which the text may end, or a closing bracket follow
pub record IsReadyField (m : FieldMode) (held : List ℕ) : Type 0 where
  pub ends : may_end m ≡ true
  pub closing : (c : ℕ) → is_closing c ≡ true → field_move m held c ≡ breaks

pub ready-fresh : IsReadyField (plain modes.Free) []
unfolding field_move move_of
ready-fresh = record { ends = refl; closing = λ c h. refl }

-- whether the character begins a string with fields; none begins at a text's characters
abbrev pub host_at : FieldMode → List ℕ → ℕ → Bool
host_at (plain m) held c = begins_host m held c
host_at other held c = false

abbrev pub BeginsNone : FieldScanned → List ℕ → Type 0
BeginsNone s [] = Unit {0}
BeginsNone s (c ∷ cs) = (host_at s.mode s.held c ≡ false) × ((next : FieldScanned) → field_step s c ≡ Some next → BeginsNone next cs)

-- so where the move is another one
abbrev opens_host : FieldMove → Bool
opens_host (grows (opened host)) = true
opens_host other = false

begins_none : (m : FieldMode) (held : List ℕ) (c : ℕ) (v : FieldMove) → opens_host v ≡ false → field_move m held c ≡ v → host_at m held c ≡ false
unfolding field_move
begins_none (plain m) held c v other move = false_from_ne_true _ (λ begins. let is : field_move (plain m) held c ≡ grows (opened (host_of held c)) = rw begins refl in both_ways _ other (ap opens_host (sym move ∙ is)))
begins_none m held c v other move = refl

-- a text that leads to an end
pub record Finishes (Room : ℕ → Type 0) (s : FieldScanned) : Type 0 where
  pub more : List ℕ
  pub to : FieldScanned
  pub scalars : all_scalars more ≡ true
  pub goes : Goes Room s more to
  pub none : BeginsNone s more
  pub final : IsFieldFinal to

-- one character more, and then such a text
finishes_after : (Room : ℕ → Type 0) (s t : FieldScanned) (c : ℕ) (v : FieldMove) → all_scalars (c ∷ []) ≡ true → opens_host v ≡ false → field_move s.mode s.held c ≡ v → Goes Room s (c ∷ []) t → Finishes Room t → Finishes Room s
finishes_after Room s t c v scalar other move goes later = record {
  more = c ∷ later.more;
  to = later.to;
  scalars = all_scalars-append (c ∷ []) later.more scalar later.scalars;
  goes = goes-append Room s t later.to (c ∷ []) later.more goes later.goes;
  none = (begins_none s.mode s.held c v other move, λ next step. subst (λ x. BeginsNone x later.more) (sym goes.3 ∙ some_is goes.0 next (sym goes.1 ∙ step)) later.none);
  final = later.final;
}

-- what is ready in a list can be finished
abbrev pub ReadyFinishes : (ℕ → Type 0) → List Level → List ℕ → Type 0
ReadyFinishes Room outer openers = (done : List Piece) (m : FieldMode) (held : List ℕ) → IsReadyField m held → Finishes Room (field_state outer done openers m held)

-- the open piece can be finished, if its list then can be
abbrev pub Readies : (ℕ → Type 0) → FieldScanned → Type 0
Readies Room s = ReadyFinishes Room s.outer s.openers → Finishes Room s

-- one character more, by which the open piece grows, or with which it ends
grows_on : (Room : ℕ → Type 0) (s : FieldScanned) (m : FieldMode) (c : ℕ) → all_scalars (c ∷ []) ≡ true → opens_host (grows m) ≡ false → field_move s.mode s.held c ≡ grows m → Finishes Room (field_state s.outer s.done s.openers m (s.held ++ c ∷ [])) → Finishes Room s
grows_on Room s m c scalar other move later = finishes_after Room s _ c (grows m) scalar other move (goes-grows Room s _ m c [] move refl) later

grows_first : (Room : ℕ → Type 0) (s : FieldScanned) (m : FieldMode) (c : ℕ) → all_scalars (c ∷ []) ≡ true → opens_host (grows m) ≡ false → field_move s.mode s.held c ≡ grows m → Readies Room (field_state s.outer s.done s.openers m (s.held ++ c ∷ [])) → Readies Room s
grows_first Room s m c scalar other move next later = grows_on Room s m c scalar other move (next later)

closes_last : (Room : ℕ → Type 0) (s : FieldScanned) (c : ℕ) → all_scalars (c ∷ []) ≡ true → field_move s.mode s.held c ≡ closes → Readies Room s
closes_last Room s c scalar move later = finishes_after Room s _ c closes scalar refl move (goes-closes Room s c move) (later _ (plain modes.Free) [] ready-fresh)

-- a closing bracket, or the `}` of a field, after a mode that is ready
closes_by : (Room : ℕ → Type 0) (outer : List Level) (done : List Piece) (openers : List ℕ) (m : FieldMode) (held : List ℕ) (c : ℕ) (next : FieldScanned) → IsReadyField m held → is_closing c ≡ true → field_operator outer (field_closed m done held) openers c ≡ Some next → Finishes Room next → Finishes Room (field_state outer done openers m held)
closes_by Room outer done openers m held c next ready is shuts later =
    finishes_after Room (field_state outer done openers m held) next c breaks (and_from _ _ (closing-scalar c is) refl) refl (ready.closing c is)
    (goes-begins Room (field_state outer done openers m held) next next c [] (ready.closing c is)
    (ap (field_started outer (field_closed m done held) openers c) (start-operator c (closing-operator c is)) ∙ shuts) (λ opens. absurd (both_ways _ (closing-not-opening c is) opens)) refl) later

-- the innermost open bracket can be closed
popped : (outer : List Level) (done : List Piece) (o : ℕ) (os : List ℕ) (c : ℕ) → is_closing c ≡ true → c == closing_of o ≡ true → field_operator outer done (o ∷ os) c ≡ Some (field_fresh outer (done ++ piece operator (c ∷ []) ∷ []) os)
popped [] done o os c is kind = ap (after_operator [] done c) (closing_pops o os c is kind)
popped (l ∷ ls) done o os c is kind = ap (after_operator (l ∷ ls) done c) (closing_pops o os c is kind)

-- so all of them, one after another
closes_list : (Room : ℕ → Type 0) (outer : List Level) (openers : List ℕ) → ReadyFinishes Room outer [] → ReadyFinishes Room outer openers
closes_list Room outer [] later done m held ready = later done m held ready
closes_list Room outer (o ∷ os) later done m held ready =
    let is = closing_of-closing o in let pieces = field_closed m done held in
    let next = field_fresh outer (pieces ++ piece operator (closing_of o ∷ []) ∷ []) os in
    closes_by Room outer done (o ∷ os) m held (closing_of o) next ready is (popped outer pieces o os (closing_of o) is (eq-eqb (closing_of o) (closing_of o) refl))
    (closes_list Room outer os later next.done next.mode next.held ready-fresh)

-- code can be finished: outside fields the text may end there, and in a field `}` leads back into the string
outside_finishes : (Room : ℕ → Type 0) (openers : List ℕ) → ReadyFinishes Room [] openers
outside_finishes Room openers = closes_list Room [] openers
    (λ done m held ready. record { more = []; to = field_state [] done [] m held; scalars = refl; goes = refl; none = tt; final = record { outside = refl; closed_all = refl; ends = ready.ends } })

code_finishes : (Room : ℕ → Type 0) (l : Level) (ls : List Level) (openers : List ℕ) → ((text : List ℕ) → Finishes Room (field_ended l ls text)) → ReadyFinishes Room (l ∷ ls) openers
unfolding is_closing
code_finishes Room l ls openers later = closes_list Room (l ∷ ls) openers (λ done m held ready.
    let text = l.front ++ (spelled (field_closed m done held) ++ 125 ∷ []) in
    closes_by Room (l ∷ ls) done [] m held 125 (field_ended l ls text) ready refl (brace_ends l ls (field_closed m done held)) (later text))

quote_one : (q : ℕ) → is_quote q ≡ true → all_scalars (q ∷ []) ≡ true
quote_one q quotes = and_from _ _ (quote-scalar q quotes) refl

-- a literal part can be closed by them
literal_readies : (Room : ℕ → Type 0) (outer : List Level) (done : List Piece) (openers : List ℕ) (host : Host) (named : Bool) (held : List ℕ) → is_quote host.quote ≡ true → Readies Room (field_state outer done openers (body host literal named between) held)
unfolding field_move body_move between_move
literal_readies Room outer done openers host named held quotes = go host.is_long refl where
  go : (b : Bool) → host.is_long ≡ b → Readies Room (field_state outer done openers (body host literal named between) held)
  go false short = closes_last Room _ host.quote (quote_one host.quote quotes) (rw (eq-eqb host.quote host.quote refl, short))
  go true long =
      grows_first Room _ (body host literal named after_one) host.quote (quote_one host.quote quotes) refl (rw (eq-eqb host.quote host.quote refl, long))
      (grows_first Room _ (body host literal named after_two) host.quote (quote_one host.quote quotes) refl (rw (eq-eqb host.quote host.quote refl, long))
      (closes_last Room _ host.quote (quote_one host.quote quotes) (rw (eq-eqb host.quote host.quote refl, long))))

-- a letter, and `}`, in a string
letter_moves : (host : Host) (place : Place) (named : Bool) (at : At) (held : List ℕ) → is_quote host.quote ≡ true → (at ≡ after_brace → ⊥) → field_move (body host place named at) held 97 ≡ grows (body host place named between)
unfolding field_move body_move between_move escape_move is_line_feed is_backslash is_break is_quote is_brace is_return
letter_moves host place named at held quotes other = grind (arith, not_quote)

name_ends : (host : Host) (place : Place) (held : List ℕ) → is_quote host.quote ≡ true → field_move (body host place true between) held 125 ≡ grows (body host place false between)
unfolding field_move body_move between_move is_backslash is_break is_quote
name_ends host literal held quotes = rw (not_quote 125 host.quote quotes refl)
name_ends host specification held quotes = rw (not_quote 125 host.quote quotes refl)

-- a string can be finished, and then what stands round it
module _ (limit : Limit) (Room : ℕ → Type 0) where
  string_finishes : (place : Place) (outer : List Level) (done : List Piece) (openers : List ℕ) (host : Host) (held text : List ℕ) → is_quote host.quote ≡ true → HoldsLevels limit place outer text → Finishes Room (field_state outer done openers (body host place false between) held)
  string_finishes literal [] done openers host held text quotes levels = literal_readies Room [] done openers host false held quotes (outside_finishes Room openers)
  string_finishes literal (l ∷ ls) done openers host held text quotes levels = literal_readies Room (l ∷ ls) done openers host false held quotes
      (code_finishes Room l ls openers (λ more. string_finishes l.place ls l.done l.openers l.host more _ levels.1.parts.quotes levels.2))
  string_finishes specification [] done openers host held text quotes levels = absurd levels
  string_finishes specification (l ∷ ls) done openers host held text quotes levels =
      let s = field_state (l ∷ ls) done openers (body host specification false between) held in let next = field_ended l ls (held ++ 125 ∷ []) in
      let move = body_moves host specification false between held 125 [] (goes_on host specification false (125 ∷ [])) ∙ end_moves host between quotes in
      finishes_after Room s next 125 ends_field refl refl move (next, ap (field_moved s 125) move, subst (HasRoomFor Room (frames s) 125) (sym move) tt, refl)
      (string_finishes l.place ls l.done l.openers l.host (held ++ 125 ∷ []) _ levels.1.parts.quotes levels.2)

  -- code in any list
  pub list_finishes : (outer : List Level) (openers text : List ℕ) → HoldsLevels limit literal outer text → ReadyFinishes Room outer openers
  list_finishes [] openers text levels = outside_finishes Room openers
  list_finishes (l ∷ ls) openers text levels = code_finishes Room l ls openers (λ more. string_finishes l.place ls l.done l.openers l.host more _ levels.1.parts.quotes levels.2)

  -- a string in which braces may stand for themselves, and at any place in it
  between_finishes : (place : Place) (outer : List Level) (done : List Piece) (openers : List ℕ) (host : Host) (named : Bool) (held text : List ℕ) → is_quote host.quote ≡ true → HoldsLevels limit place outer text → Finishes Room (field_state outer done openers (body host place named between) held)
  between_finishes place outer done openers host false held text quotes levels = string_finishes place outer done openers host held text quotes levels
  between_finishes place outer done openers host true held text quotes levels =
      grows_on Room (field_state outer done openers (body host place true between) held) (body host place false between) 125 refl refl (name_ends host place held quotes)
      (string_finishes place outer done openers host (held ++ 125 ∷ []) text quotes levels)

  pub body_finishes : (place : Place) (outer : List Level) (done : List Piece) (openers : List ℕ) (host : Host) (named : Bool) (at : At) (held text : List ℕ) → is_quote host.quote ≡ true → HoldsLevels limit place outer text → Finishes Room (field_state outer done openers (body host place named at) held)
  body_finishes place outer done openers host named after_brace held text quotes levels =
      grows_on Room (field_state outer done openers (body host place named after_brace) held) (body host place named between) 123 refl refl (second_brace host place named held)
      (between_finishes place outer done openers host named (held ++ 123 ∷ []) text quotes levels)
  body_finishes place outer done openers host named at held text quotes levels =
      grows_on Room (field_state outer done openers (body host place named at) held) (body host place named between) 97 refl refl (letter_moves host place named at held quotes (λ same. absurd (cc)))
      (between_finishes place outer done openers host named (held ++ 97 ∷ []) text quotes levels)

-- no string with fields begins in a string or after a backslash
no_host : (m : Mode) (held : List ℕ) (c : ℕ) → is_final m ≡ false → begins_host m held c ≡ false
no_host (modes.Word s) held c h = absurd (both_ways _ h refl)
no_host m held c h = refl

-- nor at a closing bracket: a mode without fields that is ready is so in a list
no_host_closing : (m : Mode) (held : List ℕ) (c : ℕ) → is_closing c ≡ true → begins_host m held c ≡ false
no_host_closing (modes.Word s) held c h = and_right _ _ (closing-not-quote c h)
no_host_closing m held c h = refl

ready_empty : (host : Host) (held : List ℕ) → is_quote host.quote ≡ true → IsReadyField (empty host) held
unfolding field_move
ready_empty host held quotes = record { ends = refl; closing = λ c h. rw (not_quote c host.quote quotes (closing-not-quote c h)) }

module _ (Room : ℕ → Type 0) (outer : List Level) (done : List Piece) (openers : List ℕ) where
  abbrev State : Mode → List ℕ → FieldScanned
  State m held = field_state outer done openers (plain m) held

  comment_ends : (held : List ℕ) → Readies Room (State modes.Comment held)
  unfolding is_opening
  comment_ends held later = let pieces = done ++ piece comment held ∷ [] in let next = field_fresh outer (pieces ++ piece line_end (10 ∷ []) ∷ []) openers in
      let move = plain_moves modes.Comment held 10 refl ∙ ap plain_move comment-breaks in
      finishes_after Room (State modes.Comment held) next 10 breaks refl refl move
      (goes-begins Room (State modes.Comment held) next next 10 [] move (ap (field_started outer pieces openers 10) feed-starts) (λ opens. absurd (both_ways _ refl opens)) refl)
      (later next.done next.mode next.held ready-fresh)

  -- the open piece can be finished
  plain_readies : (m : Mode) (held : List ℕ) → Holds m [] held → Readies Room (State m held)
  plain_readies m held holds =
      completes (λ n text. Readies Room (State n text)) (λ n text ready later. later done (plain n) text (record { ends = ready.ends; closing = λ c h. plain_moves n text c (no_host_closing n text c h) ∙ ap plain_move (ready.breaks c h) }))
      (λ n next text c open_yet scalar move later. grows_first Room (State n text) (plain next) c (and_from _ _ scalar refl) refl (plain_moves n text c (no_host n text c open_yet) ∙ ap plain_move move) later)
      (λ n text c open_yet scalar move. closes_last Room (State n text) c (and_from _ _ scalar refl) (plain_moves n text c (no_host n text c open_yet) ∙ ap plain_move move)) comment_ends m [] held holds

-- the quote of a string that is open
pub quotes_at : (limit : Limit) (outer : List Level) (depth : ℕ) (host : Host) (place : Place) (named : Bool) (at : At) (held : List ℕ) → HoldsAt limit outer depth host place named at held → is_quote host.quote ≡ true
quotes_at limit outer depth host place named after_brace held h = h.4.quotes
quotes_at limit outer depth host place named at held h = (at_open limit outer depth host place named at held (λ same. absurd (grind arith)) h).parts.quotes

-- so from every state
pub state_finishes : (limit : Limit) (Room : ℕ → Type 0) (outer : List Level) (done : List Piece) (openers : List ℕ) (m : FieldMode) (held read : List ℕ) → IsFieldSound limit (field_state outer done openers m held) read → Finishes Room (field_state outer done openers m held)
state_finishes limit Room outer done openers (plain m) held read sound = plain_readies Room outer done openers m held sound.mode.0 (list_finishes limit Room outer openers _ sound.levels)
state_finishes limit Room outer done openers (opened host) held read sound =
    let quotes = sound.mode.1 in
    grows_first Room (field_state outer done openers (opened host) held) (empty host) host.quote (and_from _ _ (quote-scalar host.quote quotes) refl) refl (second_quote host held)
    (λ later. later done (empty host) (held ++ host.quote ∷ []) (ready_empty host (held ++ host.quote ∷ []) quotes)) (list_finishes limit Room outer openers _ sound.levels)
state_finishes limit Room outer done openers (empty host) held read sound = list_finishes limit Room outer openers _ sound.levels done (empty host) held (ready_empty host held sound.mode.1)
state_finishes limit Room outer done openers (body host place named at) held read sound =
    body_finishes limit Room place outer done openers host named at held _ (quotes_at limit outer _ host place named at held sound.mode) sound.levels

-- runs over two texts, one after the other
pub steps-append : (o : Option FieldScanned) (a b : List ℕ) → field_steps_from o (a ++ b) ≡ field_steps_from (field_steps_from o a) b
steps-append None a b = refl
steps-append (Some s) [] b = refl
steps-append (Some s) (c ∷ a) b = steps-append (field_step s c) a b

room-through : (o : Option FieldScanned) (a b : List ℕ) → have_room o (a ++ b) ≡ have_room o a && have_room (field_steps_from o a) b
room-through None a b = refl
room-through (Some s) [] b = refl
room-through (Some s) (c ∷ a) b = ap (λ r. has_room s c && r) (room-through (field_step s c) a b) ∙ sym (and_assoc (has_room s c) (have_room (field_step s c) a) _)

pub room-append : (o : Option FieldScanned) (a b : List ℕ) (s : FieldScanned) → field_steps_from o a ≡ Some s → have_room o a ≡ true → have_room (Some s) b ≡ true → have_room o (a ++ b) ≡ true
room-append o a b s steps first second = room-through o a b ∙ and_from _ _ first (ap (λ x. have_room x b) steps ∙ second)

pub room_parts : (o : Option FieldScanned) (a b : List ℕ) → have_room o (a ++ b) ≡ true → (have_room o a ≡ true) × (have_room (field_steps_from o a) b ≡ true)
room_parts o a b h = and_parts (have_room o a) (have_room (field_steps_from o a) b) (sym (room-through o a b) ∙ h)

pub steps_before : (o : Option FieldScanned) (b : List ℕ) (s : FieldScanned) → field_steps_from o b ≡ Some s → (t : FieldScanned) × (o ≡ Some t)
steps_before None b s steps = absurd (none_some steps)
steps_before (Some t) b s steps = (t, refl)

-- the machine goes through a live text, and each character has room
pub live_goes : (characters : List ℕ) → IsLive characters → (s : FieldScanned) × (field_steps_from (Some field_text_start) characters ≡ Some s) × (have_room (Some field_text_start) characters ≡ true)
live_goes characters live =
    let whole = reading_reached live.pieces (characters ++ live.more) live.reading in
    let first = steps_before (field_steps_from (Some field_text_start) characters) live.more whole.to (sym (steps-append (Some field_text_start) characters live.more) ∙ whole.steps) in
    (first.0, first.1, (room_parts (Some field_text_start) characters live.more whole.room).0)

-- and a text that it goes through so is live
pub goes_live : (characters : List ℕ) (s : FieldScanned) → field_steps_from (Some field_text_start) characters ≡ Some s → have_room (Some field_text_start) characters ≡ true → IsLive characters
goes_live characters s steps room =
    let later = state_finishes two_hundred BelowLimit s.outer s.done s.openers s.mode s.held characters (sound_at two_hundred characters s (rooms_at (Some field_text_start) characters room) steps) in
    record {
      more = later.more;
      pieces = field_pieces later.to;
      scalars = later.scalars;
      reading = final_is_reading (characters ++ later.more) later.to
          (steps-append (Some field_text_start) characters later.more ∙ ap (λ o. field_steps_from o later.more) steps ∙ steps_of BelowLimit s later.to later.more later.goes)
          (room-append (Some field_text_start) characters later.more s steps room (room_of s later.to later.more later.goes)) later.final;
    }

-- what a live text begins with is live
pub live_before : (xs ys : List ℕ) → IsLive (xs ++ ys) → IsLive xs
live_before xs ys live =
    let whole = live_goes (xs ++ ys) live in
    let first = steps_before (field_steps_from (Some field_text_start) xs) ys whole.0 (sym (steps-append (Some field_text_start) xs ys) ∙ whole.1) in
    goes_live xs first.0 first.1 (room_parts (Some field_text_start) xs ys whole.2).0
