-- What a character does to the piece that is open, where that is no string with fields, what it begins, and what the open piece spells then;
-- and the brackets that are open after pieces. The machine of FieldMachine.antt, by which the scan goes, is made from it. It serves the contracts of
-- private functions; what a text reads to is said by Piece, Balance, LogicalLine and Lexed, and proofs tie the two.
use Rattle.std.specs.Prelude.{◌≡◌, ℕ, Bool, true, false, ◌==◌, ◌&&◌, Option, None, Some, List, [], ◌∷◌, ◌++◌, length, nat_lt, if◌then◌else◌}
use Rattle.py_lines.specs.Character.{is_mark, is_space, is_word_character, is_word_start, is_quote, is_operator, is_line_feed, is_return, is_break, is_hash, is_backslash, is_r, is_b, is_f, is_t, is_u}
use Rattle.std.specs.List.{fold, list_all}
use Rattle.py_lines.specs.Piece.{Class, mark, space, word, string, operator, comment, join, line_end, Piece, spelled}
use Rattle.py_lines.specs.PieceGrammar.{IsRun, IsComment, IsPrefix, is_item, is_short_item, joined, has_triple}
use Rattle.py_lines.specs.Balance.{is_opener, is_closer, closing_of}
use Rattle.py_lines.specs.LogicalLine.{first_or_zero, byte_len}
pub use Rattle.py_lines.specs.declared.mode.Spelling.{Spelling}
pub use Rattle.py_lines.specs.Private.Mode.{Mode}

-- what a character does to the piece that is open
pub data Move : Type 0 where
  Grows : Mode → Move
  Closes : Move
  Breaks : Move
  Refused : Move

-- what a character begins
pub data Start : Type 0 where
  Open : Mode → Start
  Operator : Start
  LineEnd : Start
  Nothing : Start

-- the spelling of a word of one character
unfoldable pub first_spelling : ℕ → Spelling
first_spelling c =
    if is_r c then Spelling.R
    else (if is_b c then Spelling.B
    else (if is_f c then Spelling.F
    else (if is_t c then Spelling.T
    else (if is_u c then Spelling.Prefix
    else Spelling.Name))))

-- the spelling of a word with one more character
unfoldable pub spelling_with : Spelling → ℕ → Spelling
spelling_with Spelling.R c =
    if is_b c then Spelling.Prefix else (if is_f c then Spelling.Fr else (if is_t c then Spelling.Tr else Spelling.Name))
spelling_with Spelling.B c = if is_r c then Spelling.Prefix else Spelling.Name
spelling_with Spelling.F c = if is_r c then Spelling.Fr else Spelling.Name
spelling_with Spelling.T c = if is_r c then Spelling.Tr else Spelling.Name
spelling_with other c = Spelling.Name

-- whether the word may be the prefix of a string without fields
abbrev pub is_prefix_spelling : Spelling → Bool
is_prefix_spelling Spelling.T = false
is_prefix_spelling Spelling.Tr = false
is_prefix_spelling Spelling.Name = false
is_prefix_spelling other = true

-- whether the word is the prefix of a string with fields
abbrev pub is_field_spelling : Spelling → Bool
is_field_spelling Spelling.F = true
is_field_spelling Spelling.Fr = true
is_field_spelling Spelling.T = true
is_field_spelling Spelling.Tr = true
is_field_spelling other = false

-- whether it has `r` besides
abbrev pub is_raw_spelling : Spelling → Bool
is_raw_spelling Spelling.Fr = true
is_raw_spelling Spelling.Tr = true
is_raw_spelling other = false

-- whether the word is the prefix of a string, with fields or without
abbrev pub begins_string : Spelling → Bool
begins_string Spelling.Name = false
begins_string other = true

-- the spelling of a word that goes on
abbrev pub spelling_on : Spelling → List ℕ → Spelling
spelling_on = fold spelling_with

-- what a character does in a short string that it doesn't end at once
unfoldable pub short_move : ℕ → ℕ → Move
short_move q c =
    if is_backslash c then Move.Grows (Mode.Escape q)
    else (if is_break c then Move.Refused else Move.Grows (Mode.Inside q))

-- what a character other than the quote does in a long string
unfoldable pub long_move : ℕ → ℕ → Move
long_move q c = if is_backslash c then Move.Grows (Mode.LongEscape q) else Move.Grows (Mode.Long q)

-- what a character does to the piece that is open
unfoldable pub move_of : Mode → ℕ → Move
move_of Mode.Start c = if is_mark c then Move.Closes else Move.Breaks
move_of Mode.Free c = Move.Breaks
move_of Mode.Space c = if is_space c then Move.Grows Mode.Space else Move.Breaks
move_of (Mode.Word s) c =
    if is_word_character c then Move.Grows (Mode.Word (spelling_with s c))
    else (if is_prefix_spelling s && is_quote c then Move.Grows (Mode.Opened c) else Move.Breaks)
move_of Mode.Comment c = if is_break c then Move.Breaks else Move.Grows Mode.Comment
move_of (Mode.Opened q) c = if c == q then Move.Grows (Mode.Empty q) else short_move q c
move_of (Mode.Inside q) c = if c == q then Move.Closes else short_move q c
move_of (Mode.Escape q) c = if is_return c then Move.Grows (Mode.EscapeReturn q) else Move.Grows (Mode.Inside q)
move_of (Mode.EscapeReturn q) c =
    if is_line_feed c then Move.Grows (Mode.Inside q)
    else (if c == q then Move.Closes else short_move q c)
move_of (Mode.Empty q) c = if c == q then Move.Grows (Mode.Long q) else Move.Breaks
move_of (Mode.Long q) c = if c == q then Move.Grows (Mode.LongOne q) else long_move q c
move_of (Mode.LongOne q) c = if c == q then Move.Grows (Mode.LongTwo q) else long_move q c
move_of (Mode.LongTwo q) c = if c == q then Move.Closes else long_move q c
move_of (Mode.LongEscape q) c = Move.Grows (Mode.Long q)
move_of Mode.Backslash c = if is_line_feed c then Move.Closes else (if is_return c then Move.Grows Mode.JoinReturn else Move.Refused)
move_of Mode.JoinReturn c = if is_line_feed c then Move.Closes else Move.Breaks
move_of Mode.Return c = if is_line_feed c then Move.Closes else Move.Breaks

-- what a character begins
unfoldable pub start_of : ℕ → Start
start_of c =
    if is_word_start c then Start.Open (Mode.Word (first_spelling c))
    else (if is_space c then Start.Open Mode.Space
    else (if is_operator c then Start.Operator
    else (if is_line_feed c then Start.LineEnd
    else (if is_return c then Start.Open Mode.Return
    else (if is_quote c then Start.Open (Mode.Opened c)
    else (if is_hash c then Start.Open Mode.Comment
    else (if is_backslash c then Start.Open Mode.Backslash
    else Start.Nothing)))))))

-- the class of the open piece, and of what a character at the start or after no piece closes
abbrev pub class_of : Mode → Class
class_of Mode.Start = mark
class_of Mode.Free = operator
class_of Mode.Space = space
class_of (Mode.Word s) = word
class_of Mode.Comment = comment
class_of Mode.Backslash = join
class_of Mode.JoinReturn = join
class_of Mode.Return = line_end
class_of string_mode = string

-- the pieces, the open one with them
abbrev pub closed : Mode → List Piece → List ℕ → List Piece
closed Mode.Start done held = done
closed Mode.Free done held = done
closed m done held = done ++ record { class = class_of m; text = held } ∷ []

-- whether the text may end there, brackets aside
abbrev pub is_final : Mode → Bool
is_final Mode.Start = true
is_final Mode.Free = true
is_final Mode.Space = true
is_final (Mode.Word s) = true
is_final Mode.Comment = true
is_final (Mode.Empty q) = true
is_final Mode.JoinReturn = true
is_final Mode.Return = true
is_final other = false

-- whether a short string is open
abbrev pub in_short : Mode → Bool
in_short (Mode.Opened q) = true
in_short (Mode.Inside q) = true
in_short (Mode.Escape q) = true
in_short (Mode.EscapeReturn q) = true
in_short other = false

-- whether a long string is open
abbrev pub in_long : Mode → Bool
in_long (Mode.Long q) = true
in_long (Mode.LongOne q) = true
in_long (Mode.LongTwo q) = true
in_long (Mode.LongEscape q) = true
in_long other = false

-- whether a backslash stands directly before, outside strings and comments
abbrev pub is_after_backslash : Mode → Bool
is_after_backslash Mode.Backslash = true
is_after_backslash other = false

-- an open bracket, and the byte where it stands
pub record Bracket : Type 0 where
  pub opener : ℕ
  pub place : ℕ

-- the open brackets after a closing one, the innermost first; None where the innermost is none of its kind
abbrev pub closed_by : ℕ → List Bracket → Option (List Bracket)
closed_by c [] = None
closed_by c (b ∷ bs) = if c == closing_of b.opener then Some bs else None

-- the open brackets after an opening one at this byte; None at depth 200
abbrev pub opened_by : ℕ → ℕ → List Bracket → Option (List Bracket)
opened_by c place brackets = if nat_lt (length brackets) 200 then Some (record { opener = c; place = place } ∷ brackets) else None

-- the open brackets after a piece that begins at this byte
unfoldable pub brackets_after : List Bracket → ℕ → Piece → Option (List Bracket)
brackets_after brackets place p =
    if is_opener p then opened_by (first_or_zero p.text) place brackets
    else (if is_closer p then closed_by (first_or_zero p.text) brackets
    else Some brackets)

-- the open brackets after pieces that follow finished ones
abbrev pub brackets_through : Option (List Bracket) → List Piece → List Piece → Option (List Bracket)
brackets_through None done ps = None
brackets_through (Some brackets) done [] = Some brackets
brackets_through (Some brackets) done (p ∷ ps) = brackets_through (brackets_after brackets (byte_len (spelled done)) p) (done ++ p ∷ []) ps

-- the open brackets after a text's first pieces
abbrev pub brackets_of : List Piece → Option (List Bracket)
brackets_of pieces = brackets_through (Some []) [] pieces

-- a text that isn't empty
abbrev pub IsFull : List ℕ → Type 0
IsFull [] = ⊥
IsFull (c ∷ cs) = Unit {0}

-- a prefix, and quotes
pub record HoldsQuotes (quotes : List ℕ) (q : ℕ) (held : List ℕ) : Type 0 where
  pub prefix : List ℕ
  pub spell : held ≡ prefix ++ quotes
  pub begun : IsPrefix prefix
  pub opens : is_quote q ≡ true

-- a prefix, these quotes, and whole items that may be held
pub record HoldsItems (quotes : List ℕ) (MayHold : List (List ℕ) → Type 0) (q : ℕ) (held : List ℕ) : Type 0 where
  pub prefix : List ℕ
  pub items : List (List ℕ)
  pub spell : held ≡ prefix ++ (quotes ++ joined items)
  pub begun : IsPrefix prefix
  pub opens : is_quote q ≡ true
  pub holds : MayHold items

-- items of a short string
abbrev pub HoldsShort : ℕ → List ℕ → Type 0
HoldsShort q = HoldsItems (q ∷ []) (λ items. list_all (is_short_item q) items ≡ true) q

-- which are some characters together
abbrev pub HoldsSome : ℕ → List ℕ → Type 0
HoldsSome q held = (short : HoldsShort q held) × IsFull (joined short.items)

-- items of a long string, which isn't closed
abbrev pub HoldsPrefix : ℕ → List ℕ → Type 0
HoldsPrefix q = HoldsItems (q ∷ q ∷ q ∷ []) (λ items. (list_all is_item items ≡ true) × (has_triple q items ≡ false)) q

-- and it isn't after a quote: two more quotes don't close it
abbrev pub HoldsLong : ℕ → List ℕ → Type 0
HoldsLong q = HoldsItems (q ∷ q ∷ q ∷ []) (λ items. (list_all is_item items ≡ true) × (has_triple q (items ++ (q ∷ []) ∷ (q ∷ []) ∷ []) ≡ false)) q

-- what the open piece spells, in each mode
abbrev pub Holds : Mode → List Piece → List ℕ → Type 0
Holds Mode.Start done held = (done ≡ []) × (held ≡ [])
Holds Mode.Free done held = held ≡ []
Holds Mode.Space done held = IsRun is_space held
Holds (Mode.Word s) done held =
    (first : ℕ) × (others : List ℕ) × (held ≡ first ∷ others) × (is_word_start first ≡ true)
    × (list_all is_word_character others ≡ true) × (s ≡ spelling_on (first_spelling first) others)
Holds Mode.Comment done held = IsComment held
Holds (Mode.Opened q) done held = HoldsQuotes (q ∷ []) q held
Holds (Mode.Inside q) done held = HoldsSome q held
Holds (Mode.Escape q) done held =
    (before : List ℕ) × (slash : ℕ) × (held ≡ before ++ slash ∷ []) × HoldsShort q before
    × (is_backslash slash ≡ true)
Holds (Mode.EscapeReturn q) done held =
    (before : List ℕ) × (slash : ℕ) × (r : ℕ) × (held ≡ before ++ slash ∷ r ∷ []) × HoldsShort q before
    × (is_backslash slash ≡ true) × (is_return r ≡ true)
Holds (Mode.Empty q) done held = HoldsQuotes (q ∷ q ∷ []) q held
Holds (Mode.Long q) done held = HoldsLong q held
Holds (Mode.LongOne q) done held = (before : List ℕ) × (held ≡ before ++ q ∷ []) × HoldsLong q before
Holds (Mode.LongTwo q) done held = (before : List ℕ) × (held ≡ before ++ q ∷ q ∷ []) × HoldsLong q before
Holds (Mode.LongEscape q) done held =
    (before : List ℕ) × (slash : ℕ) × (held ≡ before ++ slash ∷ []) × HoldsPrefix q before
    × (is_backslash slash ≡ true)
Holds Mode.Backslash done held = (slash : ℕ) × (held ≡ slash ∷ []) × (is_backslash slash ≡ true)
Holds Mode.JoinReturn done held = (slash : ℕ) × (r : ℕ) × (held ≡ slash ∷ r ∷ []) × (is_backslash slash ≡ true) × (is_return r ≡ true)
Holds Mode.Return done held = (r : ℕ) × (held ≡ r ∷ []) × (is_return r ≡ true)
