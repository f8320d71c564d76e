-- The tokens of a whole logical line, which are read from its text alone.
use Rattle.std.specs.Prelude.{◌≡◌, ℕ, ◌+◌, Bool, true, false, Option, None, Some, List, [], ◌∷◌, ◌++◌, if◌then◌else◌, encode_utf8_all, drop, length, nat_eq, take, ◌<◌, ◌≤◌}
use Rattle.std.specs.List.{starts_with}
use Rattle.std.specs.Str.{all_scalars}
use Rattle.py_lines.specs.Character.{is_digit}
pub use Rattle.py_lines.specs.Character.{is_quote, is_space}
use Rattle.py_lines.specs.Piece.{Class, word, operator, comment, begins_marked, is_mark_class, spelled}
pub use Rattle.py_lines.specs.Piece.{Piece, begins, string}
use Rattle.py_lines.specs.Fields.{AreReadBefore, IsShallow}
use Rattle.py_lines.specs.LogicalLine.{byte_len, end_len_of, line_ends, first_or_zero, token, tokens_from}
use Rattle.py_lines.specs.Private.Machine.{begins_string}
pub use Rattle.py_lines.specs.Private.Machine.{is_field_spelling}
pub use Rattle.py_lines.specs.Private.Run.{IsRunOf, is_wide_word, word_spelling}
use Rattle.py_lines.specs.declared.class.Class.{Class as ByteClass}
use Rattle.py_lines.specs.declared.class.Class.TheVariants as class
use Rattle.py_lines.specs.declared.token.Token.{Token}
use Rattle.py_lines.specs.declared.token.TokKind.{TokKind}
use Rattle.py_lines.specs.declared.token.TokKind.TheVariants as kind
pub use Rattle.std.specs.Char.{is_ascii_digit}
pub use Rattle.py_lines.specs.Private.Marks.{is_of_class}

-- the text is what these pieces spell, which something may follow, and there is room for all that they open where so many brackets are open
-- before them
pub record AreTextAt (depth : ℕ) (text : List ℕ) (pieces : List Piece) : Type 0 where
  pub scalars : all_scalars (spelled pieces) ≡ true
  pub spell : encode_utf8_all (spelled pieces) ≡ text
  pub after : List ℕ
  pub fit : AreReadBefore pieces after
  pub shallow : IsShallow depth pieces

-- so for a whole line
abbrev pub AreLineText : List ℕ → List Piece → Type 0
AreLineText = AreTextAt 0

-- the bytes are such pieces, of which this is the first, and no mark
pub record BeginWithPiece (bytes : List ℕ) (p : Piece) : Type 0 where
  pub unmarked : is_mark_class p.class ≡ false
  pub others : List Piece
  pub depth : ℕ
  pub text : AreTextAt depth bytes (p ∷ others)

-- the kind of a word, by whether it begins with a digit
abbrev pub word_kind : Bool → TokKind
word_kind digit = if digit then kind.Number else kind.Name

-- what a piece is to its line: a token of this kind, or nothing more
abbrev pub role_of : Class → List ℕ → Option TokKind
role_of word text = Some (word_kind (begins is_digit text))
role_of string text = Some kind.Str
role_of operator text = Some (kind.Op (first_or_zero text))
role_of comment text = Some kind.Remark
role_of other text = None

-- the first piece of bytes: what it is to its line, how many bytes it has, and how many line ends it holds
pub record FirstPiece : Type 0 where
  pub role : Option TokKind
  pub len : ℕ
  pub line_ends : ℕ

-- so for a token, and for a string
abbrev pub token_piece : TokKind → ℕ → ℕ → FirstPiece
token_piece kind len line_ends = record { role = Some kind; len = len; line_ends = line_ends }

abbrev pub string_piece : ℕ → ℕ → FirstPiece
string_piece len line_ends = token_piece kind.Str len line_ends

-- the piece as its line takes it
abbrev pub IsTakenFor : Piece → FirstPiece → Type 0
IsTakenFor p first = first ≡ record { role = role_of p.class p.text; len = byte_len p.text; line_ends = line_ends p.text }

-- the bytes of the line end that these begin with: of CR LF, or of LF or CR
abbrev pub line_end_len : List ℕ → ℕ
line_end_len bytes = if starts_with nat_eq bytes (13 ∷ 10 ∷ []) then 2 else 1

-- the byte order mark in UTF-8, and how many bytes of it the text begins with
abbrev pub mark_bytes : List ℕ
mark_bytes = 0xEF ∷ 0xBB ∷ 0xBF ∷ []

abbrev pub mark_len : List ℕ → ℕ
mark_len text = if starts_with nat_eq text mark_bytes then 3 else 0

-- whether a quote after such a word, or after nothing, begins a string
abbrev pub is_prefix_word : List ℕ → Bool
is_prefix_word [] = true
is_prefix_word text = begins_string (word_spelling text)

-- the first piece of these bytes, whatever it is
abbrev pub IsFirstPiece : List ℕ → FirstPiece → Type 0
IsFirstPiece bytes first = (p : Piece) → BeginWithPiece bytes p → IsTakenFor p first

-- the bytes begin with a string
abbrev pub BeginWithString : List ℕ → Type 0
BeginWithString bytes = (p : Piece) × (p.class ≡ string) × BeginWithPiece bytes p

-- the pieces of a line of this text, which has so many bytes of line end
abbrev pub AreLineOf : List ℕ → ℕ → List Piece → Type 0
AreLineOf text end_len pieces = AreLineText text pieces × (end_len ≡ end_len_of pieces)

-- the tokens of such a line, which begins on this line of the text
abbrev pub HoldsTokens : List ℕ → ℕ → ℕ → List Token → Type 0
HoldsTokens text end_len line tokens = (pieces : List Piece) → AreLineOf text end_len pieces → tokens ≡ tokens_from 0 line pieces

-- the line after such a line
abbrev pub IsLineAfter : ℕ → List ℕ → ℕ → ℕ → Type 0
IsLineAfter line text end_len after = (pieces : List Piece) → AreLineOf text end_len pieces → after ≡ line + line_ends (spelled pieces)

-- the token that a piece is, if it is one
abbrev pub token_in : Option TokKind → ℕ → ℕ → ℕ → List Token
token_in (Some k) start stop line = token k start stop line ∷ []
token_in None start stop line = []

-- the tokens with that of a piece, which stands between these bytes of its line, and on this line of the text
abbrev pub AddsPiece : List Token → Option TokKind → ℕ → ℕ → ℕ → List Token → Type 0
AddsPiece old role start stop line new = new ≡ old ++ token_in role start stop line

-- the first piece of these bytes was read, which stands at this byte of its line, and on this line of the text: so many bytes of it, with so
-- many line ends
pub record ReadsPiece (bytes : List ℕ) (old : List Token) (start line len line_ends : ℕ) (new : List Token) : Type 0 where
  pub role : Option TokKind
  pub is : IsFirstPiece bytes (record { role = role; len = len; line_ends = line_ends })
  pub adds : AddsPiece old role start (start + len) line new

-- the first piece of these bytes, however many of them are cut off after it
abbrev pub IsFirstAnyway : List ℕ → FirstPiece → Type 0
IsFirstAnyway bytes first = (n : ℕ) → first.len ≤ n → n ≤ length bytes → IsFirstPiece (take n bytes) first

-- so it was read
pub record ReadsAnyway (bytes : List ℕ) (old : List Token) (start line len line_ends : ℕ) (new : List Token) : Type 0 where
  pub some : 0 < len
  pub within : len ≤ length bytes
  pub few : line_ends ≤ len
  pub role : Option TokKind
  pub is : IsFirstAnyway bytes (record { role = role; len = len; line_ends = line_ends })
  pub adds : AddsPiece old role start (start + len) line new

-- whether a byte of this class begins pieces of one kind alone, which are the same wherever after them a text ends
abbrev pub is_simple : ByteClass → Bool
is_simple class.Operator = true
is_simple class.Opening = true
is_simple class.Closing = true
is_simple class.Hash = true
is_simple class.Space = true
is_simple class.LineFeed = true
is_simple _ = false

-- a piece that a byte of another class begins was not read
abbrev pub StaysUnread : ByteClass → List Token → List Token → Type 0
StaysUnread k old new = (is_simple k ≡ false) × (new ≡ old)

-- the first of the pieces were read, up to this byte of the line, which is on this line of the text, and these are left
pub record HaveReadOf (text : List ℕ) (pieces left : List Piece) (first start line : ℕ) (held : List Token) : Type 0 where
  pub unmarked : begins_marked left ≡ false
  pub depth : ℕ
  pub are : AreTextAt depth (drop start text) left
  pub ends : end_len_of left ≡ end_len_of pieces
  pub lines : line + line_ends (spelled left) ≡ first + line_ends (spelled pieces)
  pub tokens : tokens_from 0 first pieces ≡ held ++ tokens_from start line left

-- so for all pieces of a line of this text, which has so many bytes of line end
abbrev pub HaveRead : List ℕ → ℕ → ℕ → ℕ → ℕ → List Token → Type 0
HaveRead text end_len first start line held =
    (pieces : List Piece) → AreLineOf text end_len pieces → (left : List Piece) × HaveReadOf text pieces left first start line held

-- so of each line with which these bytes begin, and whose line end stands there or later
abbrev pub HaveReadAnyway : List ℕ → ℕ → ℕ → ℕ → List Token → Type 0
HaveReadAnyway bytes first start line held =
    (n end_len : ℕ) → n ≤ length bytes → start + end_len ≤ n → HaveRead (take n bytes) end_len first start line held

-- the pieces from one byte to another were read: the line is this one there
pub record ReadsUpTo (bytes : List ℕ) (old : List Token) (start line to after : ℕ) (new : List Token) : Type 0 where
  pub further : start ≤ to
  pub few : after + start ≤ line + to
  pub reads : (first : ℕ) → HaveReadAnyway bytes first start line old → HaveReadAnyway bytes first to after new

-- the text is that of a line, which has so many bytes of line end
abbrev pub IsLineText : List ℕ → ℕ → Type 0
IsLineText text end_len = (pieces : List Piece) × AreLineOf text end_len pieces
