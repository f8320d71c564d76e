-- Logical lines: what a text is cut into after each line end outside brackets. Python Language Reference, 2.1.
use Rattle.std.specs.Prelude.{ℕ, ◌+◌, Bool, true, false, not, ◌==◌, ◌&&◌, ◌||◌, List, [], ◌∷◌, ◌++◌, length, if◌then◌else◌, encode_utf8_all}
use Rattle.std.specs.List.{list_any}
use Rattle.py_lines.specs.Character.{is_digit, is_line_feed, is_return}
use Rattle.py_lines.specs.Piece.{Class, mark, space, word, string, operator, comment, line_end, Piece, begins, is_mark_class, spelled}
use Rattle.py_lines.specs.Balance.{depth_after}
use Rattle.py_lines.specs.declared.token.TokKind.{TokKind}
use Rattle.py_lines.specs.declared.token.TokKind.TheVariants as kind
use Rattle.py_lines.specs.declared.token.Token.{Token}
use Rattle.py_lines.specs.declared.unit.UnitKind.{UnitKind}
use Rattle.py_lines.specs.declared.unit.UnitKind.TheVariants as unit_kind

-- whether the piece ends a line
abbrev pub is_line_end_class : Class → Bool
is_line_end_class line_end = true
is_line_end_class other = false

-- the piece, put first in the first part
abbrev pub put_first : Piece → List (List Piece) → List (List Piece)
put_first p [] = (p ∷ []) ∷ []
put_first p (u ∷ us) = (p ∷ u) ∷ us

-- the pieces, cut after each line end at depth 0
abbrev pub cut : ℕ → List Piece → List (List Piece)
cut depth [] = []
cut depth (p ∷ ps) =
    if is_line_end_class p.class && (depth == 0) then (p ∷ []) ∷ cut depth ps
    else put_first p (cut (depth_after depth p) ps)

-- the length in bytes of characters
abbrev pub byte_len : List ℕ → ℕ
byte_len characters = length (encode_utf8_all characters)

-- whether a line end ends at the character before these: LF, or CR that isn't before LF (2.1.2)
abbrev pub ends_line : ℕ → List ℕ → Bool
ends_line c rest = is_line_feed c || (is_return c && not (begins is_line_feed rest))

-- how many line ends the characters hold, in strings and joins too; CR LF is one
abbrev pub line_ends : List ℕ → ℕ
line_ends [] = 0
line_ends (c ∷ cs) = (if ends_line c cs then 1 else 0) + line_ends cs

-- the first character, if there is one
abbrev pub first_or_zero : List ℕ → ℕ
first_or_zero [] = 0
first_or_zero (c ∷ cs) = c

-- a token of this kind, between these bytes of its unit, on this line
abbrev pub token : TokKind → ℕ → ℕ → ℕ → Token
token k start stop line = record { kind = k; start = start; stop = stop; line = line }

-- a piece as a token, if its class has tokens: its places in the unit's bytes, and its line
abbrev pub tokens_of_piece : ℕ → ℕ → ℕ → Class → List ℕ → List Token
tokens_of_piece start stop line word text = token (if begins is_digit text then kind.Number else kind.Name) start stop line ∷ []
tokens_of_piece start stop line string text = token kind.Str start stop line ∷ []
tokens_of_piece start stop line operator text = token (kind.Op (first_or_zero text)) start stop line ∷ []
tokens_of_piece start stop line comment text = token kind.Remark start stop line ∷ []
tokens_of_piece start stop line other text = []

-- the tokens of pieces that begin at this byte of their unit, on this line
abbrev pub tokens_from : ℕ → ℕ → List Piece → List Token
tokens_from start line [] = []
tokens_from start line (p ∷ ps) =
    tokens_of_piece start (start + byte_len p.text) line p.class p.text
    ++ tokens_from (start + byte_len p.text) (line + line_ends p.text) ps

-- words, strings, operators and joins
abbrev pub is_code_class : Class → Bool
is_code_class mark = false
is_code_class space = false
is_code_class comment = false
is_code_class line_end = false
is_code_class other = true

-- comments
abbrev pub is_comment_class : Class → Bool
is_comment_class comment = true
is_comment_class other = false

-- Code with a token other than a comment or a join, Comment with comments alone, Blank with no token
abbrev pub kind_of : List Piece → UnitKind
kind_of pieces =
    if list_any (λ p. is_code_class p.class) pieces then unit_kind.Code
    else (if list_any (λ p. is_comment_class p.class) pieces then unit_kind.Comment
    else unit_kind.Blank)

-- the bytes of the piece, if it is space
abbrev pub space_len : Class → List ℕ → ℕ
space_len space text = byte_len text
space_len other text = 0

-- the bytes of space that the pieces begin with, after a mark
abbrev pub indent_of : List Piece → ℕ
indent_of [] = 0
indent_of (p ∷ []) = space_len p.class p.text
indent_of (p ∷ q ∷ ps) = if is_mark_class p.class then space_len q.class q.text else space_len p.class p.text

-- the bytes of the line end that the pieces end with
abbrev pub end_len_of : List Piece → ℕ
end_len_of [] = 0
end_len_of (p ∷ []) = if is_line_end_class p.class then byte_len p.text else 0
end_len_of (p ∷ q ∷ ps) = end_len_of (q ∷ ps)

-- a logical line, with the fields that a `Unit` has
pub record LogicalLine : Type 0 where
  pub kind : UnitKind
  pub text : List ℕ
  pub tokens : List Token
  pub offset : ℕ
  pub line : ℕ
  pub indent : ℕ
  pub end_len : ℕ

-- the logical line of these pieces, at this byte and line of the text
abbrev pub line_of : ℕ → ℕ → List Piece → LogicalLine
line_of offset line pieces = record {
  kind = kind_of pieces;
  text = encode_utf8_all (spelled pieces);
  tokens = tokens_from 0 line pieces;
  offset = offset;
  line = line;
  indent = indent_of pieces;
  end_len = end_len_of pieces;
}

-- the logical lines of parts that follow one another from this byte and line on
abbrev pub lines_from : ℕ → ℕ → List (List Piece) → List LogicalLine
lines_from offset line [] = []
lines_from offset line (u ∷ us) = line_of offset line u ∷ lines_from (offset + byte_len (spelled u)) (line + line_ends (spelled u)) us

-- the logical lines of a text's pieces
abbrev pub lines_of : List Piece → List LogicalLine
lines_of pieces = lines_from 0 1 (cut 0 pieces)
