-- What each character does outside strings with fields: it goes on with the open piece or ends it, begins another one, ends a field,
-- or opens its specification.
use Rattle.py_lines.proofs.Prelude.{◌≡◌, ◌==◌, ℕ, Bool, suc, ◌+◌, true, false, ◌&&◌, Option, None, Some, List, [], ◌∷◌, ◌++◌, length, refl, sym, ap, ◌∙◌, subst, inl, append_assoc, append-nil, arith, inr, ◌⊎◌, cond_both, and_left, and_right, eqb-true, ne_eqb, and_parts, both_ways, or_from, false_from_ne_true, and_from, list_any, is_quote, is_operator, is_word_character, is_opening, depth_through, Spelling, piece}
use Rattle.py_lines.specs.Piece.{string, operator, line_end, Piece, spelled, Class, word, begins, is_mark_class}
use Rattle.py_lines.specs.PieceGrammar.{is_bare, joined, InClassIn, MayPrecedeIn, AreReadPlain}
use Rattle.py_lines.specs.Fields.{AreInside, IsSpecification, simple, specified, fielded, Fields}
use Rattle.py_lines.specs.FieldStrings.{Host, Place, literal, specification, begins_open, field, is_field_prefix, with_fields}
use Rattle.py_lines.specs.Private.Machine.{Mode, Start, Start as starts, class_of, start_of, Holds, closed, move_of, is_prefix_spelling, Move, Move as moves}
use Rattle.py_lines.specs.Private.Mode as modes
use Rattle.py_lines.specs.Private.FieldMachine.{before, between, plain, body, Level, FieldScanned, field_state, levels_open, field_ended, code_operator, after_operator, field_operator, field_started, openers_with, specification_ended, text_place, FieldMode, opened, FieldMove, field_fresh, host_of, begins_host, plain_move, field_moved}
use Rattle.py_lines.proofs.Text.CharacterTests.{not_quote, quote-not-start}
use Rattle.py_lines.proofs.Machine.Starts.{StartsSo, starts_so}
use Rattle.py_lines.proofs.Machine.Soundness.{StartHolds, start_holds, MoveHolds, move_holds}
use Rattle.py_lines.proofs.FieldSoundness.OpenLists.{OpensIf, opens-operator, opens-depth}
use Rattle.py_lines.proofs.FieldSoundness.Holds.{BeginsPlain, Limit, OpensSpecification, HoldsParts, HoldsBetween, IsSingle, HoldsLevel, HoldsLevels, Stands, AtStart, IsFieldSound, HoldsMode}
use Rattle.py_lines.proofs.FieldSoundness.BodyMoves.{no_parts, longer_next, push_between}
use Rattle.py_lines.proofs.FieldSoundness.Lists.{FieldSoundIf, not_specification, no_pieces, sound_in, list_more, levels_more, adds_neutral, fresh_sound, stands_at, stands_more, stands_push}
use Rattle.py_lines.proofs.FieldMachine.StringParts.{field_unnamed}
use Rattle.py_lines.proofs.Fields.Parts.{not_nothing}
use Rattle.py_lines.proofs.Fields.Prefixes.{word_quotes}
use Rattle.py_lines.proofs.FieldMachine.Runs.{HasRoomFor}
use Rattle.py_lines.proofs.FieldMachine.PlainSteps.{NoWord, no_word}
use Rattle.py_lines.proofs.Fields.Elsewhere.{IsPlainText, plain_class, plain_precede}

-- a field among the parts of a string
bare_field : (q : ℕ) (rest : List ℕ) → is_quote q ≡ true → is_bare (λ d. d == q) (123 ∷ rest) ≡ false
unfolding is_quote
bare_field q [] quotes = not_quote 123 q quotes refl
bare_field q (c ∷ cs) quotes = refl

pub single_at : (place : Place) (text : List ℕ) → IsSingle literal place text → place ≡ literal → (more : List ℕ) → begins_open (text ++ more) ≡ false
single_at literal text one at = one
single_at specification text one at = absurd (cc)

-- a field that has ended: back in its string
field_end : (limit : Limit) (level : Level) (outer : List Level) (rest read : List ℕ) → HoldsLevel limit level outer → HoldsLevels limit level.place outer (spelled level.done ++ level.front) → limit.FieldsAt (length level.openers + levels_open outer) level.host (123 ∷ rest) → (level.place ≡ literal → begins_open rest ≡ false) → before level.place outer ++ (spelled level.done ++ (level.front ++ rest)) ≡ read → IsFieldSound limit (field_ended level outer (level.front ++ rest)) read
field_end limit level outer rest read h levels is single spell =
    let depth = length level.openers + levels_open outer in
    let front : h.text ++ 123 ∷ rest ≡ level.front ++ rest = sym (append_assoc h.text (123 ∷ []) rest) ∙ ap (λ t. t ++ rest) (sym h.spell) in record {
      spell = spell;
      mode = subst (λ t. HoldsBetween limit outer depth level.host level.place false t []) front
          (push_between limit outer depth level.host level.place false false h.text (123 ∷ rest) [] (longer_next limit outer depth level.host level.place false h.text (123 ∷ []) rest h.parts)
          (λ more. field is single refl) (bare_field level.host.quote rest h.parts.quotes) tt (field_unnamed rest));
      list = list_more limit outer level.place level.done level.openers level.front rest h.list;
      levels = subst (HoldsLevels limit level.place outer) (append_assoc (spelled level.done) level.front rest) (levels_more limit level.place outer (spelled level.done ++ level.front) rest levels);
      start = tt;
    }

-- code before a character that begins a new piece
abbrev pub Ready : Limit → List Level → List Piece → List ℕ → List ℕ → ℕ → Type 0
Ready limit outer done openers read c = Stands limit literal outer done openers (c ∷ []) (read ++ c ∷ [])

-- the pieces of a field that ends there
inside_is : (limit : Limit) (level : Level) (outer : List Level) (done : List Piece) (read : List ℕ) (c : ℕ) → Ready limit (level ∷ outer) done [] read c → AreInside fielded done (c ∷ [])
inside_is limit level outer done read c ready = grind arith

-- an operator that neither ends a field nor opens its specification
after_sound : (limit : Limit) (outer : List Level) (done : List Piece) (openers read : List ℕ) (c : ℕ) → Ready limit outer done openers read c → (is_opening c ≡ true → limit.Room (length openers + levels_open outer)) → is_operator c ≡ true → ((l : Level) (ls : List Level) → outer ≡ l ∷ ls → (c == 58) && (depth_through 0 done == 0) ≡ false) → FieldSoundIf limit (after_operator outer done c (openers_with openers c)) (read ++ c ∷ [])
after_sound limit outer done openers read c ready room is colon = go (openers_with openers c) (opens-operator openers done c [] ready.list.opens) where
  go : (o : Option (List ℕ)) → OpensIf o (done ++ piece operator (c ∷ []) ∷ []) → FieldSoundIf limit (after_operator outer done c o) (read ++ c ∷ [])
  go None opens = tt
  go (Some after) opens = fresh_sound limit outer done openers after operator (c ∷ []) (read ++ c ∷ []) ready
      (record { is = (c, refl, is); precedes = λ more. tt; unmarked = inl refl; opens = opens; colon = colon; room = room })

-- the `}` that ends a field without a specification
code_ends : (limit : Limit) (level : Level) (outer : List Level) (done : List Piece) (read : List ℕ) (c : ℕ) → Ready limit (level ∷ outer) done [] read c → c ≡ 125 → IsFieldSound limit (field_ended level outer (level.front ++ (spelled done ++ c ∷ []))) (read ++ c ∷ [])
code_ends limit level outer done read c ready is =
    let own = ready.levels.1 in let rest = spelled done ++ c ∷ [] in
    field_end limit level outer rest (read ++ c ∷ []) own ready.levels.2
    (limit.makes_field (length level.openers + levels_open outer) level.host (123 ∷ rest) own.room
    (simple done (ap (λ (d : ℕ). 123 ∷ (spelled done ++ d ∷ [])) is) (subst (λ (d : ℕ). AreInside fielded done (d ∷ [])) is (inside_is limit level outer done read c ready)) ready.list.passes))
    (λ at. ap begins_open (sym (append-nil rest)) ∙ single_at level.place rest ready.levels.0 at []) ((simp append_assoc) ∙ ready.spell)

-- the `:` that opens a specification
code_specifies : (limit : Limit) (level : Level) (outer : List Level) (done : List Piece) (read : List ℕ) (c : ℕ) → Ready limit (level ∷ outer) done [] read c → c ≡ 58 → IsFieldSound limit (field_state (level ∷ outer) [] [] (body level.host specification false between) (level.front ++ (spelled done ++ c ∷ []))) (read ++ c ∷ [])
code_specifies limit level outer done read c ready is =
    let own = ready.levels.1 in let rest = spelled done ++ c ∷ [] in let held = level.front ++ rest in
    let opens : OpensSpecification limit level (levels_open (level ∷ outer)) level.host held = record {
      same_host = refl;
      inside = done;
      spell = ap (λ (d : ℕ). level.front ++ (spelled done ++ d ∷ [])) is;
      are_inside = subst (λ (d : ℕ). AreInside fielded done (d ∷ [])) is (inside_is limit level outer done read c ready);
      passes = ready.list.passes;
      single = λ at more. ap (λ (d : ℕ). begins_open (spelled done ++ d ∷ more)) (sym is) ∙ ap begins_open (sym (append_assoc (spelled done) (c ∷ []) more)) ∙ single_at level.place rest ready.levels.0 at more;
    } in record {
      spell = (simp append_assoc) ∙ ready.spell;
      mode = record {
        all = no_parts limit (level ∷ outer) _ level.host specification held [] opens own.parts.quotes;
        apart = refl;
        full = λ at short. not_specification (sym at);
      };
      list = no_pieces limit specification (level ∷ outer) held;
      levels = (tt, own, ready.levels.2);
      start = tt;
    }

-- an operator
operator_sound : (limit : Limit) (outer : List Level) (done : List Piece) (openers read : List ℕ) (c : ℕ) → Ready limit outer done openers read c → (is_opening c ≡ true → limit.Room (length openers + levels_open outer)) → is_operator c ≡ true → FieldSoundIf limit (field_operator outer done openers c) (read ++ c ∷ [])
unfolding code_operator
operator_sound limit [] done openers read c ready room is = after_sound limit [] done openers read c ready room is (λ l ls at. absurd (cc))
operator_sound limit (level ∷ outer) done [] read c ready room is =
    cond_both (c == 125) _ _ (λ (o : Option FieldScanned). FieldSoundIf limit o (read ++ c ∷ []))
    (λ ends. code_ends limit level outer done read c ready (eqb-true c 125 ends))
    (λ other. cond_both (c == 58) _ _ (λ (o : Option FieldScanned). FieldSoundIf limit o (read ++ c ∷ []))
    (λ specifies. code_specifies limit level outer done read c ready (eqb-true c 58 specifies))
    (λ another. after_sound limit (level ∷ outer) done [] read c ready room is (λ l ls at. and_left _ _ another)))
operator_sound limit (level ∷ outer) done (o ∷ os) read c ready room is =
    let depth : depth_through 0 done ≡ suc (length os) + 0 = opens-depth (o ∷ os) done 0 ready.list.opens ∙ omega arith in
    after_sound limit (level ∷ outer) done (o ∷ os) read c ready room is (λ l ls at. and_right _ _ (ne_eqb (depth_through 0 done) 0 (λ zero. omega (arith, depth, zero))))

-- what a character begins
pub start_sound : (limit : Limit) (outer : List Level) (done : List Piece) (openers read : List ℕ) (c : ℕ) → Ready limit outer done openers read c → (is_opening c ≡ true → limit.Room (length openers + levels_open outer)) → FieldSoundIf limit (field_started outer done openers c (start_of c)) (read ++ c ∷ [])
start_sound limit outer done openers read c ready room = go (start_of c) (starts_so c) (start_holds c) where
  begun : (m : Mode) → StartsSo c (starts.Open m) → (class_of m ≡ string → BeginsPlain (c ∷ [])) × AtStart (plain m) outer done
  begun modes.Start so = absurd so
  begun (modes.Opened q) so = (λ at. record { prefix = []; quote = c; body = []; spell = refl; none = refl; opens = so.0; plain = refl }, tt)
  begun modes.Space so = (λ at. absurd (grind arith), tt)
  begun (modes.Word s) so = (λ at. absurd (grind arith), tt)
  begun modes.Comment so = (λ at. absurd (grind arith), tt)
  begun modes.Return so = (λ at. absurd (grind arith), tt)
  begun modes.Backslash so = (λ at. absurd (grind arith), tt)
  begun m so = absurd so

  go : (s : Start) → StartsSo c s → StartHolds c s → FieldSoundIf limit (field_started outer done openers c s) (read ++ c ∷ [])
  go (starts.Open m) so holds = sound_in limit outer done openers (plain m) (c ∷ []) (read ++ c ∷ []) ready (holds, (begun m so).0) (begun m so).1
  go starts.Operator so holds = operator_sound limit outer done openers read c ready room so
  go starts.LineEnd so holds = fresh_sound limit outer done openers openers line_end (c ∷ []) (read ++ c ∷ []) ready
      (adds_neutral limit outer done openers line_end (c ∷ []) [] ready.list.opens (λ at. absurd (cc)) holds.0 (λ more. holds.1 more) (inl refl))
  go starts.Nothing so holds = tt

-- the `}` that ends a field with a specification
pub specification_ends : (limit : Limit) (outer : List Level) (openers : List ℕ) (host : Host) (held read : List ℕ) (c : ℕ) → openers ≡ [] → c ≡ 125 → HoldsParts limit outer (length openers + levels_open outer) host specification false held (125 ∷ []) → HoldsLevels limit specification outer held → before specification outer ++ held ≡ read → FieldSoundIf limit (specification_ended outer (held ++ c ∷ [])) (read ++ c ∷ [])
specification_ends limit [] openers host held read c none is h levels spell = absurd levels
specification_ends limit (level ∷ outer) openers host held read c none is h levels spell =
    let own = levels.1 in let opens = h.opens_with in let same : level.host ≡ host = opens.same_host in let zero : length openers ≡ 0 = ap length none in
    let depth : length openers + levels_open (level ∷ outer) ≡ levels_open (level ∷ outer) = omega (arith, zero) in
    let rest = spelled opens.inside ++ (58 ∷ (joined h.parts ++ 125 ∷ [])) in
    let text : held ++ c ∷ [] ≡ level.front ++ rest =
    ap (λ (d : ℕ). held ++ d ∷ []) is ∙ ap (λ t. t ++ 125 ∷ []) (h.spell ∙ ap (λ t. t ++ joined h.parts) opens.spell) ∙ simp append_assoc in
    let own_specification : IsSpecification (limit.FieldsAt (levels_open (level ∷ outer))) level.host h.parts =
    subst (λ (x : Host). IsSpecification (limit.FieldsAt (levels_open (level ∷ outer))) x h.parts) (sym same)
    (subst (λ (d : ℕ). IsSpecification (limit.FieldsAt d) host h.parts) depth (record { each = h.fit []; ended = h.named_is; open_yet = h.open_yet })) in
    subst (λ t. IsFieldSound limit (field_ended level outer t) (read ++ c ∷ [])) (sym text) (field_end limit level outer rest (read ++ c ∷ []) own levels.2
    (limit.makes_field (length level.openers + levels_open outer) level.host (123 ∷ rest) own.room (specified opens.inside h.parts refl opens.are_inside opens.passes own_specification))
    (λ at. opens.single at (joined h.parts ++ 125 ∷ []))
    (ap (λ t. before level.place outer ++ (spelled level.done ++ t)) (sym text) ∙ (simp append_assoc) ∙ ap (λ t. t ++ c ∷ []) spell))

-- a text whose first quote comes after no prefix of a string with fields stays so where it goes on
pub begins_plain-more : (text : List ℕ) (c : ℕ) → BeginsPlain text → BeginsPlain (text ++ c ∷ [])
begins_plain-more text c is = grind (arith, append_assoc)

-- what may open at a character that does this, where so many brackets and fields are open before it
abbrev pub HasRoom : Limit → ℕ → ℕ → FieldMove → Type 0
HasRoom limit depth c move = HasRoomFor limit.Room depth c move

-- the open piece grows
pub grew : (limit : Limit) (outer : List Level) (done : List Piece) (openers : List ℕ) (m n : FieldMode) (held read : List ℕ) (c : ℕ) → IsFieldSound limit (field_state outer done openers m held) read → text_place n ≡ text_place m → HoldsMode limit outer (length openers + levels_open outer) n (held ++ c ∷ []) → AtStart n outer done → IsFieldSound limit (field_state outer done openers n (held ++ c ∷ [])) (read ++ c ∷ [])
grew limit outer done openers m n held read c sound at holds start =
    sound_in limit outer done openers n (held ++ c ∷ []) (read ++ c ∷ []) (stands_more limit (text_place n) outer done openers held read (c ∷ []) (stands_at limit outer done openers m held read (text_place n) sound (sym at))) holds start

-- it ends with the character, and before it
pub closes_with : (limit : Limit) (outer : List Level) (done : List Piece) (openers : List ℕ) (m : FieldMode) (held read : List ℕ) (c : ℕ) (class : Class) → IsFieldSound limit (field_state outer done openers m held) read → text_place m ≡ literal → (class ≡ operator → ⊥) → InClassIn (with_fields (limit.FieldsAt (length openers + levels_open outer))) class (held ++ c ∷ []) → ((more : List ℕ) → MayPrecedeIn fielded class (held ++ c ∷ []) more) → (is_mark_class class ≡ false) ⊎ ((outer ≡ []) × (done ≡ [])) → IsFieldSound limit (field_fresh outer (done ++ piece class (held ++ c ∷ []) ∷ []) openers) (read ++ c ∷ [])
closes_with limit outer done openers m held read c class sound at other is precedes first =
    let stands = stands_more limit literal outer done openers held read (c ∷ []) (stands_at limit outer done openers m held read literal sound at) in
    fresh_sound limit outer done openers openers class (held ++ c ∷ []) (read ++ c ∷ []) stands (adds_neutral limit outer done openers class (held ++ c ∷ []) [] stands.list.opens other is precedes first)

pub ends_before : (limit : Limit) (outer : List Level) (done : List Piece) (openers : List ℕ) (m : FieldMode) (held read : List ℕ) (c : ℕ) (class : Class) → IsFieldSound limit (field_state outer done openers m held) read → text_place m ≡ literal → (class ≡ operator → ⊥) → InClassIn (with_fields (limit.FieldsAt (length openers + levels_open outer))) class held → ((more : List ℕ) → MayPrecedeIn fielded class held (c ∷ more)) → is_mark_class class ≡ false → Ready limit outer (done ++ piece class held ∷ []) openers read c
ends_before limit outer done openers m held read c class sound at other is precedes unmarked =
    stands_push limit outer done openers openers class held (c ∷ []) read (stands_at limit outer done openers m held read literal sound at) (adds_neutral limit outer done openers class held (c ∷ []) sound.list.opens other is precedes (inl unmarked))

-- a word holds no quote
word_no_quote : (s : Spelling) (held : List ℕ) → Holds (modes.Word s) [] held → list_any is_quote held ≡ false
word_no_quote s held (first, others, is, opens, all, so) =
    ap (list_any is_quote) is ∙ or_from _ _ (false_from_ne_true _ (λ quotes. both_ways _ (quote-not-start first quotes) opens)) (word_quotes others all)

-- a string that the machine without fields begins is none with fields
abbrev QuotedSo : List ℕ → ℕ → Move → Type 0
QuotedSo held c (moves.Grows n) = class_of n ≡ string → BeginsPlain (held ++ c ∷ [])
QuotedSo held c other = Unit {0}

keeps_class : (class : Class) (held : List ℕ) (c : ℕ) (v : Move) → NoWord class v → (class ≡ string → BeginsPlain held) → QuotedSo held c v
keeps_class class held c (moves.Grows n) same own = λ at. begins_plain-more held c (own (sym same.1 ∙ at))
keeps_class class held c v same own = tt

quoted_so : (m : Mode) (held : List ℕ) (c : ℕ) → Holds m [] held → (class_of m ≡ string → BeginsPlain held) → begins_host m held c ≡ false → QuotedSo held c (move_of m c)
unfolding move_of
quoted_so (modes.Word s) held c holds own other =
    let P : Move → Type 0 = λ v. QuotedSo held c v in
    cond_both (is_word_character c) _ _ P (λ h at. absurd (cc))
    (λ h. cond_both (is_prefix_spelling s && is_quote c) _ _ P
    (λ k at. record { prefix = held; quote = c; body = []; spell = refl; none = word_no_quote s held holds; opens = (and_parts _ _ k).1; plain = false_from_ne_true _ (λ fields. both_ways _ other (and_from _ _ fields (and_parts _ _ k).1)) })
    (λ k. tt))
quoted_so m held c holds own other = keeps_class (class_of m) held c (move_of m c) (no_word m c refl) own

-- classes that are neither operators nor words
abbrev is_told_at_once : Class → Bool
is_told_at_once operator = false
is_told_at_once word = false
is_told_at_once other = true

apart : (class : Class) → is_told_at_once class ≡ true → (class ≡ operator → ⊥) × (class ≡ word → ⊥)
apart class told = (λ at. both_ways _ (ap is_told_at_once at) told, λ at. both_ways _ (ap is_told_at_once at) told)

-- no character closes a word, nor what stands after no piece
closes_class : (m : Mode) (c : ℕ) → move_of m c ≡ moves.Closes → (class_of m ≡ operator → ⊥) × (class_of m ≡ word → ⊥)
unfolding move_of
closes_class m c h = grind arith

-- what keeps an open piece from being part of a string with fields
pub plain_text : (class : Class) (text rest : List ℕ) → (class ≡ string → BeginsPlain text) → (class ≡ word → is_field_prefix text && begins is_quote rest ≡ false) → IsPlainText class text rest
plain_text class text rest one two = grind arith

word_host : (m : Mode) (held : List ℕ) (c : ℕ) → begins_host m held c ≡ false → class_of m ≡ word → is_field_prefix held && is_quote c ≡ false
word_host (modes.Word s) held c h at = h
word_host m held c h at = absurd (cc)

unmarked : (m : Mode) (outer : List Level) (done : List Piece) → AtStart (plain m) outer done → (is_mark_class (class_of m) ≡ false) ⊎ ((outer ≡ []) × (done ≡ []))
unmarked modes.Start outer done start = inr start
unmarked m outer done start = inl refl

-- the open piece, which is none of nothing or a piece that ends
pub data Ends (m : Mode) : Type 0 where
  nothing : ((done : List Piece) (held : List ℕ) → closed m done held ≡ done) → ((held : List ℕ) → Holds m [] held → held ≡ []) → Ends m
  something : ((done : List Piece) (held : List ℕ) → closed m done held ≡ done ++ piece (class_of m) held ∷ []) → (class_of m ≡ operator → ⊥) → is_mark_class (class_of m) ≡ false → Ends m

pub ends_of : (m : Mode) → Ends m
ends_of m = grind arith

module _ (limit : Limit) (outer : List Level) (done : List Piece) (openers : List ℕ) (m : Mode) (held read : List ℕ) (c : ℕ) (sound : IsFieldSound limit (field_state outer done openers (plain m) held) read) (other : begins_host m held c ≡ false) where
  -- the piece ends before it
  ready : ((more : List ℕ) → AreReadPlain (closed m [] held) (c ∷ more)) → Ready limit outer (closed m done held) openers read c
  ready own = go (ends_of m) where
    go : Ends m → Ready limit outer (closed m done held) openers read c
    go (nothing is empty) = subst (λ (l : List Piece). Ready limit outer l openers read c) (sym (is done held))
        (subst (λ t. Stands limit literal outer done openers (t ++ c ∷ []) (read ++ c ∷ [])) (empty held sound.mode.0) (stands_more limit literal outer done openers held read (c ∷ []) (stands_at limit outer done openers (plain m) held read literal sound refl)))
    go (something is class marked) =
        let fit : (more : List ℕ) → AreReadPlain (piece (class_of m) held ∷ []) (c ∷ more) = λ more. subst (λ (l : List Piece). AreReadPlain l (c ∷ more)) (is [] held) (own more) in
        let is_plain : (more : List ℕ) → IsPlainText (class_of m) held (c ∷ more) = λ more. plain_text (class_of m) held (c ∷ more) sound.mode.1 (word_host m held c other) in
        subst (λ (l : List Piece). Ready limit outer l openers read c) (sym (is done held))
        (ends_before limit outer done openers (plain m) held read c (class_of m) sound refl class (plain_class _ (class_of m) held (c ∷ []) (is_plain []) (fit []).0)
        (λ more. plain_precede Fields (class_of m) held (c ∷ more) (is_plain more) (fit more).1) marked)

  -- so whatever it does
  pub plain_sound : HasRoom limit (length openers + levels_open outer) c (plain_move (move_of m c)) → FieldSoundIf limit (field_moved (field_state outer done openers (plain m) held) c (plain_move (move_of m c))) (read ++ c ∷ [])
  plain_sound room = go (move_of m c) (move_holds m held c sound.mode.0) (quoted_so m held c sound.mode.0 sound.mode.1 other) refl room where
    no_start : (n : Mode) → Holds n [] (held ++ c ∷ []) → AtStart (plain n) outer done
    no_start modes.Start (one, none) = absurd (not_nothing held c [] none)
    no_start n holds = tt

    go : (v : Move) → MoveHolds m held c v → QuotedSo held c v → move_of m c ≡ v → HasRoom limit (length openers + levels_open outer) c (plain_move v) → FieldSoundIf limit (field_moved (field_state outer done openers (plain m) held) c (plain_move v)) (read ++ c ∷ [])
    go (moves.Grows n) holds quoted so room = grew limit outer done openers (plain m) (plain n) held read c sound refl (holds, quoted) (no_start n holds)
    go moves.Closes holds quoted so room = let text = held ++ c ∷ [] in let class = closes_class m c so in
        let is_plain : (rest : List ℕ) → IsPlainText (class_of m) text rest = λ rest. plain_text (class_of m) text rest (λ at. begins_plain-more held c (sound.mode.1 at)) (λ at. absurd (class.1 at)) in
        closes_with limit outer done openers (plain m) held read c (class_of m) sound refl class.0 (plain_class _ (class_of m) text [] (is_plain []) holds.0)
        (λ more. plain_precede Fields (class_of m) text more (is_plain more) (holds.1 more)) (unmarked m outer done sound.start)
    go moves.Breaks holds quoted so room = start_sound limit outer (closed m done held) openers read c (ready holds) room
    go moves.Refused holds quoted so room = tt

-- a word that is the prefix of a string with fields, before a quote
pub begins_sound : (limit : Limit) (outer : List Level) (done : List Piece) (openers : List ℕ) (m : Mode) (held read : List ℕ) (c : ℕ) → IsFieldSound limit (field_state outer done openers (plain m) held) read → begins_host m held c ≡ true → IsFieldSound limit (field_state outer done openers (opened (host_of held c)) (held ++ c ∷ [])) (read ++ c ∷ [])
begins_sound limit outer done openers (modes.Word s) held read c sound is =
    let both = and_parts (is_field_prefix held) (is_quote c) is in
    grew limit outer done openers (plain (modes.Word s)) (opened (host_of held c)) held read c sound refl (record { prefix = held; spell = refl; begun = both.0; raw = refl }, both.1, refl) tt
begins_sound limit outer done openers m held read c sound is = absurd (both_ways _ refl is)
