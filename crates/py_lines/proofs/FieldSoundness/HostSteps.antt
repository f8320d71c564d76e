-- What each character does in strings with fields, and so what any text does.
use Rattle.py_lines.proofs.Prelude.{◌≡◌, ◌==◌, ℕ, ◌+◌, Bool, true, false, Option, None, Some, List, [], ◌∷◌, ◌++◌, length, refl, sym, ap, ◌∙◌, subst, inl, inr, append_assoc, append-nil, arith, cond_both, both_ways, eq-eqb, is_quote, Class, string, spelled, Piece, piece}
use Rattle.py_lines.specs.PieceGrammar.{MayPrecedeIn}
use Rattle.py_lines.specs.Fields.{fielded}
use Rattle.py_lines.specs.FieldStrings.{Host, Place, literal, specification, quotes_of, IsFieldString}
use Rattle.py_lines.specs.Private.FieldMachine.{text_place, before, between, FieldMode, plain, opened, empty, body, FieldMove, grows, closes, breaks, begins_code, opens_field, ends_field, refused, Level, FieldScanned, field_state, field_fresh, field_text_start, begins_host, long_host, is_after_brace, field_move, body_move, field_moved, field_step, field_steps_from, field_class_of, levels_open, frames}
use Rattle.py_lines.proofs.FieldSoundness.Holds.{Limit, OpensHost, HoldsMode, HoldsLevel, HoldsLevels, IsFieldSound}
use Rattle.py_lines.proofs.FieldSoundness.BodyMoves.{no_parts, short_quotes, Moved, between_moves, body_moves}
use Rattle.py_lines.proofs.FieldSoundness.Lists.{FieldSoundIf, no_pieces, stands_at, stands_more}
use Rattle.py_lines.proofs.FieldSoundness.CodeSteps.{start_sound, specification_ends, HasRoom, grew, closes_with, ends_before, plain_sound, begins_sound}

-- one more quote of an opening
more_quotes : (host : Host) (quotes held : List ℕ) (c : ℕ) → c == host.quote ≡ true → OpensHost host quotes held → OpensHost host (quotes ++ host.quote ∷ []) (held ++ c ∷ [])
more_quotes host quotes held c same h = grind arith

-- one quote opens a short string
pub short_opens : (host : Host) (held : List ℕ) → host.is_long ≡ false → OpensHost host (host.quote ∷ []) held → OpensHost host (quotes_of host) held
short_opens host held short h = subst (λ t. OpensHost host t held) (sym (short_quotes host short)) h

-- so after one quote a character other than this quote begins the literal part of a short string
pub opened_moves : (limit : Limit) (outer : List Level) (depth : ℕ) (host : Host) (held : List ℕ) (c : ℕ) → HoldsMode limit outer depth (opened host) held → c == host.quote ≡ false → Moved limit outer depth host literal false held c (body_move host literal false between c)
unfolding body_move
opened_moves limit outer depth host held c (opens, quotes, short) other =
    between_moves limit outer depth host false literal false between held c (no_parts limit outer depth host literal held (c ∷ []) (short_opens host held short opens) quotes) (λ same. absurd (both_ways _ other (eq-eqb c host.quote same)))

-- two quotes are an empty string, unless a third one follows
pub empty_string : (limit : Limit) (outer : List Level) (depth : ℕ) (host : Host) (held : List ℕ) → OpensHost host (host.quote ∷ host.quote ∷ []) held → is_quote host.quote ≡ true → host.is_long ≡ false → IsFieldString (limit.FieldsAt depth) held
empty_string limit outer depth host held h quotes short = grind arith

pub empty_before : (host : Host) (held : List ℕ) (c : ℕ) (more : List ℕ) → OpensHost host (host.quote ∷ host.quote ∷ []) held → is_quote host.quote ≡ true → c == host.quote ≡ false → MayPrecedeIn fielded string held (c ∷ more)
empty_before host held c more h quotes other prefix r spell begun also = grind arith

module _ (limit : Limit) (outer : List Level) (done : List Piece) (openers : List ℕ) (m : FieldMode) (held read : List ℕ) (c : ℕ) (sound : IsFieldSound limit (field_state outer done openers m held) read) where
  abbrev depth : ℕ
  depth = length openers + levels_open outer

  abbrev State : FieldScanned
  State = field_state outer done openers m held

  -- whatever a character does in a string with fields
  moved_sound : (host : Host) (place : Place) (waits : Bool) (v : FieldMove) → text_place m ≡ place → field_class_of m ≡ string → Moved limit outer depth host place waits held c v → HasRoom limit depth c v → FieldSoundIf limit (field_moved State c v) (read ++ c ∷ [])
  moved_sound host place waits (grows n) at class holds room = grew limit outer done openers m n held read c sound (holds.0 ∙ sym at) holds.2 (holds.1 done)
  moved_sound host place waits closes at class holds room =
      subst (λ (x : Class). IsFieldSound limit (field_fresh outer (done ++ piece x (held ++ c ∷ []) ∷ []) openers) (read ++ c ∷ [])) (sym class)
      (closes_with limit outer done openers m held read c string sound (at ∙ holds.0) (λ h. absurd (cc)) holds.1 holds.2 (inl refl))
  moved_sound host place waits breaks at class holds room = absurd holds
  -- a field opens before the character, in a literal part
  moved_sound host place waits (begins_code h) at class (waiting, here, single, text, spell, parts) room =
      let level : Level = record { done = done; openers = openers; host = h; place = literal; front = held } in
      let stands = stands_at limit outer done openers m held read literal sound (at ∙ here) in
      let own : HoldsLevel limit level outer = record { text = text; spell = spell; list = stands.list; parts = parts; room = room.0 } in
      start_sound limit (level ∷ outer) [] [] read c (record {
        spell = sym (append_assoc (before literal outer ++ (spelled done ++ held)) [] (c ∷ [])) ∙ ap (λ t. t ++ c ∷ []) (append-nil (before literal outer ++ (spelled done ++ held)) ∙ stands.spell);
        list = no_pieces limit literal (level ∷ outer) (c ∷ []);
        levels = (λ more. single, own, stands.levels);
      })
      (λ opens. subst limit.Room (omega arith) (room.1 opens))
  -- a field opens at the character, in a specification
  moved_sound host place waits (opens_field h) at class (here, is, parts) room =
      let front = held ++ c ∷ [] in let level : Level = record { done = done; openers = openers; host = h; place = specification; front = front } in
      let stands = stands_more limit specification outer done openers held read (c ∷ []) (stands_at limit outer done openers m held read specification sound (at ∙ here)) in
      let own : HoldsLevel limit level outer = record { text = held; spell = ap (λ (d : ℕ). held ++ d ∷ []) is; list = stands.list; parts = parts; room = room } in
      record { spell = append-nil (before specification outer ++ (spelled done ++ front)) ∙ stands.spell; mode = (refl, λ h. absurd (cc)); list = no_pieces limit literal (level ∷ outer) []; levels = (tt, own, stands.levels); start = tt }
  -- the field ends whose specification is open
  moved_sound host place waits ends_field at class (here, is, parts) room =
      let none = sound.list.no_list (at ∙ here) in let text : spelled done ++ held ≡ held = ap (λ (l : List Piece). spelled l ++ held) none.0 in
      let stands = stands_at limit outer done openers m held read specification sound (at ∙ here) in
      specification_ends limit outer openers host held read c none.1 is parts
      (subst (HoldsLevels limit specification outer) text stands.levels) (ap (λ t. before specification outer ++ t) (sym text) ∙ stands.spell)
  moved_sound host place waits refused at class holds room = tt

-- what a move comes to is sound
abbrev IsSoundBy : Limit → FieldScanned → List ℕ → ℕ → FieldMove → Type 0
IsSoundBy limit s read c v = HasRoom limit (frames s) c v → FieldSoundIf limit (field_moved s c v) (read ++ c ∷ [])

-- one character
pub step_sound : (limit : Limit) (outer : List Level) (done : List Piece) (openers : List ℕ) (m : FieldMode) (held read : List ℕ) (c : ℕ) → IsFieldSound limit (field_state outer done openers m held) read → HasRoom limit (length openers + levels_open outer) c (field_move m held c) → FieldSoundIf limit (field_step (field_state outer done openers m held) c) (read ++ c ∷ [])
unfolding field_move body_move
step_sound limit outer done openers (plain m) held read c sound room =
    cond_both (begins_host m held c) _ _ (IsSoundBy limit (field_state outer done openers (plain m) held) read c) (λ is room. begins_sound limit outer done openers m held read c sound is) (λ other room. plain_sound limit outer done openers m held read c sound other room) room
step_sound limit outer done openers (opened host) held read c sound room =
    let depth = length openers + levels_open outer in let (opens, quotes, short) = sound.mode in
    cond_both (c == host.quote) _ _ (IsSoundBy limit (field_state outer done openers (opened host) held) read c)
    (λ same room. grew limit outer done openers (opened host) (empty host) held read c sound refl (more_quotes host (host.quote ∷ []) held c same opens, quotes, short) tt)
    (λ other room. moved_sound limit outer done openers (opened host) held read c sound host literal false (body_move host literal false between c) refl refl (opened_moves limit outer depth host held c sound.mode other) room) room
step_sound limit outer done openers (empty host) held read c sound room =
    let depth = length openers + levels_open outer in let (opens, quotes, short) = sound.mode in
    cond_both (c == host.quote) _ _ (IsSoundBy limit (field_state outer done openers (empty host) held) read c) (λ same room.
    let three = more_quotes host (host.quote ∷ host.quote ∷ []) held c same opens in
    let long : OpensHost (long_host host) (quotes_of (long_host host)) (held ++ c ∷ []) = record { prefix = three.prefix; spell = three.spell; begun = three.begun; raw = three.raw } in
    grew limit outer done openers (empty host) (body (long_host host) literal false between) held read c sound refl
    (record { all = no_parts limit outer depth (long_host host) literal (held ++ c ∷ []) [] long quotes; apart = refl; full = λ at short. absurd (both_ways _ short refl) }) tt)
    (λ other room. start_sound limit outer (done ++ piece string held ∷ []) openers read c
    (ends_before limit outer done openers (empty host) held read c string sound refl (λ h. absurd (cc)) (inr (empty_string limit outer depth host held opens quotes short)) (λ more. empty_before host held c more opens quotes other) refl) room) room
step_sound limit outer done openers (body host place named at) held read c sound room =
    let depth = length openers + levels_open outer in
    moved_sound limit outer done openers (body host place named at) held read c sound host place (is_after_brace at) (body_move host place named at c) refl refl (body_moves limit outer depth host place named at held c sound.mode) room

-- characters, one after another
abbrev pub HaveRoom : Limit → Option FieldScanned → List ℕ → Type 0
HaveRoom limit None cs = Unit {0}
HaveRoom limit (Some s) [] = Unit {0}
HaveRoom limit (Some s) (c ∷ cs) = HasRoom limit (frames s) c (field_move s.mode s.held c) × HaveRoom limit (field_step s c) cs

pub run_sound : (limit : Limit) (o : Option FieldScanned) (read cs : List ℕ) → FieldSoundIf limit o read → HaveRoom limit o cs → FieldSoundIf limit (field_steps_from o cs) (read ++ cs)
run_sound limit None read cs sound room = tt
run_sound limit (Some s) read [] sound room = subst (IsFieldSound limit s) (sym (append-nil read)) sound
run_sound limit (Some s) read (c ∷ cs) sound room = subst (FieldSoundIf limit (field_steps_from (field_step s c) cs)) (append_assoc read (c ∷ []) cs)
    (run_sound limit (field_step s c) (read ++ c ∷ []) cs (step_sound limit s.outer s.done s.openers s.mode s.held read c sound room.0) room.1)

pub start_is_sound : (limit : Limit) → IsFieldSound limit field_text_start []
start_is_sound limit =
    record { spell = refl; mode = ((refl, refl), λ at. absurd (cc)); list = no_pieces limit literal [] []; levels = tt; start = (refl, refl) }

-- where the machine goes to from the start is sound
pub sound_at : (limit : Limit) (cs : List ℕ) (s : FieldScanned) → HaveRoom limit (Some field_text_start) cs → field_steps_from (Some field_text_start) cs ≡ Some s → IsFieldSound limit s cs
sound_at limit cs s room steps = subst (λ o. FieldSoundIf limit o cs) steps (run_sound limit (Some field_text_start) [] cs (start_is_sound limit) room)
