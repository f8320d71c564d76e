-- What a character does to the open piece: a word is known by its spelling; and what each move leaves open.
use Rattle.py_lines.proofs.Prelude.{not, ◌≡◌, ℕ, Bool, true, false, ◌==◌, List, [], ◌∷◌, ◌++◌, refl, sym, ap, ◌&&◌, ◌∙◌, subst, append-nil, arith, if◌then◌else◌, byte, cond_both, both_ways, is_quote, is_word_character, is_backslash, is_break, string, Piece, spelled, Host, Place, literal, specification, piece}
use Rattle.py_lines.specs.Private.Machine.{Mode, Move, Spelling, Move as moves, Holds, begins_string, closed, class_of, is_field_spelling, is_raw_spelling, long_move, move_of, short_move, spelling_with}
use Rattle.py_lines.specs.Private.Mode as modes
use Rattle.py_lines.specs.Private.FieldMachine.{At, Level, between, after_slash, after_brace, FieldMode, plain, opened, empty, body, FieldMove, grows, closes, breaks, begins_code, opens_field, ends_field, refused, host_of, long_host, begins_host, plain_move, between_move, escape_move, body_move, is_after_brace, field_move, is_after_two, with_quote, closing_move, opening_move, ending_move, field_closed, field_class_of, text_place}
use Rattle.py_lines.specs.Private.Scan.{HoldsCode, HasNoList, NoListAt, is_ending}
use Rattle.py_lines.proofs.Pieces.PieceLists.{spelled-push}
use Rattle.py_lines.proofs.Machine.LiveTexts as live
use Rattle.py_lines.proofs.Machine.PieceSteps.{closing_neutral}
use Rattle.py_lines.proofs.Machine.Spellings.{word_told, other_begins}
use Rattle.py_lines.proofs.Machine.Soundness.{MoveHolds, move_holds}
use Rattle.py_lines.proofs.FieldScans.Frames.{AreOpenAlike, neutral_alike}
use Rattle.py_lines.proofs.Text.CharacterTests.{quote-not-word}

-- what a character does after a word, which its spelling tells
abbrev pub word_move : Spelling → ℕ → FieldMove
word_move s c = if is_word_character c then grows (plain (modes.Word (spelling_with s c)))
    else (if is_quote c && is_field_spelling s then grows (opened (record { quote = c; is_long = false; is_raw = is_raw_spelling s }))
    else (if is_quote c && begins_string s then grows (plain (modes.Opened c)) else breaks))

pub word_meets : (s : Spelling) (held : List ℕ) (c : ℕ) → Holds (modes.Word s) [] held → word_move s c ≡ field_move (plain (modes.Word s)) held c
unfolding field_move move_of
word_meets s held c own = grind (arith, word_told s held own, other_begins s, quote-not-word c)

-- what a move of a string's body leaves open
abbrev pub BodyMoved : Host → Place → Bool → At → ℕ → FieldMove → Type 0
BodyMoved host place named at c (grows n) = (b : Bool) × (a : At) × (n ≡ body host place b a) × (place ≡ specification → is_after_brace a ≡ false)
BodyMoved host place named at c closes = (place ≡ literal) × (c == host.quote ≡ true)
BodyMoved host place named at c breaks = ⊥
BodyMoved host place named at c (begins_code h) = (h ≡ host) × (at ≡ after_brace)
BodyMoved host place named at c (opens_field h) = (h ≡ host) × (place ≡ specification) × (named ≡ false) × (c == byte "{" ≡ true)
BodyMoved host place named at c ends_field = (place ≡ specification) × (named ≡ false) × (c == byte "}" ≡ true)
BodyMoved host place named at c refused = Unit {0}

between_moved : (host : Host) (place : Place) (named : Bool) (a at : At) (c : ℕ) → BodyMoved host place named a c (between_move host place named at c)
unfolding between_move
between_moved host place named a at c = cond_both (c == host.quote) _ _ P
    (λ same. cond_both (host.is_long && not (is_after_two at)) _ _ P (λ h. (named, with_quote at, refl, λ is. after_quote at)) (λ h. closing place same))
    (λ other. cond_both (is_backslash c) _ _ P (λ h. (named, after_slash, refl, λ is. refl)) (λ h. cond_both (is_break c && not host.is_long) _ _ P (λ h. tt)
    (λ h. cond_both ((c == byte "{") && not named) _ _ P (opening place)
    (λ h. cond_both (c == byte "}") _ _ P (ending place named) (λ h. (named, between, refl, λ is. refl))))))
  where
    P : FieldMove → Type 0
    P = BodyMoved host place named a c

    after_quote : (b : At) → is_after_brace (with_quote b) ≡ false
    after_quote b = grind arith

    closing : (p : Place) → c == host.quote ≡ true → BodyMoved host p named a c (closing_move p)
    closing p same = grind arith

    opening : (p : Place) → (c == byte "{") && not named ≡ true → BodyMoved host p named a c (opening_move host p)
    opening p is = grind arith

    ending : (p : Place) (b : Bool) → c == byte "}" ≡ true → BodyMoved host p b a c (ending_move host p b)
    ending p b is = grind arith

pub body_moved : (host : Host) (place : Place) (named : Bool) (at : At) (held : List ℕ) (c : ℕ) → BodyMoved host place named at c (field_move (body host place named at) held c)
unfolding field_move body_move escape_move
body_moved host place named at held c = grind (arith, between_moved)

-- a piece that grows stays where it is, and its text stays as its mode has it
pub record GrowsTo (m n : FieldMode) (text : List ℕ) : Type 0 where
  pub place : text_place n ≡ text_place m
  pub holds : HoldsCode n text

-- a piece that ends before a character
pub record EndsBefore (m : FieldMode) (held : List ℕ) : Type 0 where
  pub place : text_place m ≡ literal
  pub spells : (done : List Piece) → spelled (field_closed m done held) ≡ spelled done ++ held
  pub neutral : (done : List Piece) → AreOpenAlike done (field_closed m done held)

-- what each move says of the open piece: what closes it closes a string's text, or code; and a field begins, opens or ends in a
-- string, and opens in a specification by a `{`
abbrev pub Says : FieldMode → List ℕ → ℕ → FieldMove → Type 0
Says m held c (grows n) = GrowsTo m n (held ++ c ∷ [])
Says m held c closes = (text_place m ≡ literal) × ((done : List Piece) → AreOpenAlike done (done ++ piece (field_class_of m) (held ++ c ∷ []) ∷ []))
Says m held c breaks = EndsBefore m held
Says m held c (begins_code h) = (place : Place) × (named : Bool) × (m ≡ body h place named after_brace)
Says m held c (opens_field h) = (at : At) × (m ≡ body h specification false at) × (c == byte "{" ≡ true)
Says m held c ends_field = (text_place m ≡ specification) × (c == byte "}" ≡ true)
Says m held c refused = Unit {0}

-- the text of what is open by its class: at the text's start and where no piece is open, there is none
nothing_held : (done : List Piece) (held : List ℕ) → held ≡ [] → spelled done ≡ spelled done ++ held
nothing_held done held is = sym (append-nil (spelled done)) ∙ ap (λ t. spelled done ++ t) (sym is)

closed_spells : (m : Mode) (held : List ℕ) → HoldsCode (plain m) held → (done : List Piece) → spelled (closed m done held) ≡ spelled done ++ held
closed_spells modes.Start held holds done = nothing_held done held holds
closed_spells modes.Free held holds done = nothing_held done held holds
closed_spells m held holds done = spelled-push done (class_of m) held

plain_before : (m : Mode) (held : List ℕ) → HoldsCode (plain m) held → EndsBefore (plain m) held
plain_before m held holds = record { place = refl; spells = closed_spells m held holds; neutral = λ done st stack. live.stack_closed m done held st stack }

-- what may end where it stands
pub ending_before : (m : FieldMode) (held : List ℕ) → is_ending m ≡ true → HoldsCode m held → EndsBefore m held
ending_before (plain m) held may holds = plain_before m held holds
ending_before (empty host) held may holds = record { place = refl; spells = λ done. spelled-push done string held; neutral = λ done. neutral_alike done string held refl refl }
ending_before m held may holds = absurd (both_ways _ refl may)

-- as the machine without fields has it
pub holds_plain : (n : Mode) (held : List ℕ) → Holds n [] held → HoldsCode (plain n) held
holds_plain (modes.Word s) held holds = holds
holds_plain n held holds = grind arith

-- what a move of it leaves open
abbrev HeldAfter : Move → List ℕ → Type 0
HeldAfter (moves.Grows n) text = HoldsCode (plain n) text
HeldAfter v text = Unit {0}

held_word : (s : Spelling) (held : List ℕ) (c : ℕ) (v : Move) → MoveHolds (modes.Word s) held c v → HeldAfter v (held ++ c ∷ [])
held_word s held c (moves.Grows n) holds = holds_plain n (held ++ c ∷ []) holds
held_word s held c v holds = tt

held_after : (m : Mode) (held : List ℕ) (c : ℕ) → HoldsCode (plain m) held → HeldAfter (move_of m c) (held ++ c ∷ [])
unfolding move_of short_move long_move
held_after (modes.Word s) held c holds = held_word s held c (move_of (modes.Word s) c) (move_holds (modes.Word s) held c holds)
held_after m held c holds = grind arith

plain_says : (m : Mode) (held : List ℕ) (c : ℕ) (v : Move) → move_of m c ≡ v → HoldsCode (plain m) held → HeldAfter v (held ++ c ∷ []) → Says (plain m) held c (plain_move v)
plain_says m held c moves.Closes is own holds =
    let neutral = closing_neutral m (held ++ c ∷ []) c is in (refl, λ done. neutral_alike done (class_of m) (held ++ c ∷ []) neutral.0 neutral.1)
plain_says m held c v is own holds = grind (arith, plain_before m held own)

body_says : (host : Host) (place : Place) (named : Bool) (at : At) (held : List ℕ) (c : ℕ) (v : FieldMove) → BodyMoved host place named at c v
    → Says (body host place named at) held c v
body_says host place named at held c v moved = grind (arith, λ (done : List Piece). neutral_alike done string (held ++ c ∷ []) refl refl)

says : (m : FieldMode) (held : List ℕ) (c : ℕ) → HoldsCode m held → Says m held c (field_move m held c)
unfolding field_move body_move escape_move between_move
says (plain m) held c holds = cond_both (begins_host m held c) (grows (opened (host_of held c))) (plain_move (move_of m c)) (Says (plain m) held c)
    (λ h. record { place = refl; holds = tt }) (λ h. plain_says m held c (move_of m c) refl holds (held_after m held c holds))
says (empty host) held c holds = cond_both (c == host.quote) (grows (body (long_host host) literal false between)) breaks (Says (empty host) held c)
    (λ h. record { place = refl; holds = tt }) (λ h. ending_before (empty host) held refl tt)
says (body host place named at) held c holds =
    body_says host place named at held c (field_move (body host place named at) held c) (body_moved host place named at held c)
says m held c holds = grind (arith, λ (done : List Piece). neutral_alike done string (held ++ c ∷ []) refl refl)

pub said : (m : FieldMode) (held : List ℕ) (c : ℕ) (v : FieldMove) → HoldsCode m held → field_move m held c ≡ v → Says m held c v
said m held c v holds is = subst (Says m held c) is (says m held c holds)

-- no list stands in a specification that goes on
pub list_at : (m n : FieldMode) (outer : List Level) (done : List Piece) (openers : List ℕ) → text_place n ≡ text_place m
    → HasNoList m outer done openers → HasNoList n outer done openers
list_at m n outer done openers same none = grind arith

pub bare_in : (m : FieldMode) (outer : List Level) (done : List Piece) (openers : List ℕ) → text_place m ≡ specification
    → HasNoList m outer done openers → NoListAt specification outer done openers
bare_in (body host specification named at) outer done openers is none = none
bare_in m outer done openers is none = absurd (cc)
