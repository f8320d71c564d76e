-- The words of a logical line: what its tokens say, wherever they stand. Python Language Reference, chapter 2.
use Rattle.std.specs.Prelude.{ℕ, List, [], ◌∷◌, ◌++◌, encode_utf8_all, slice_range, if◌then◌else◌}
use Rattle.py_lines.specs.Character.{is_digit}
use Rattle.py_lines.specs.Piece.{Class, word, string, operator, comment, Piece, begins}
use Rattle.py_lines.specs.LogicalLine.{first_or_zero}
use Rattle.py_lines.specs.declared.token.TokKind.{TokKind}
use Rattle.py_lines.specs.declared.token.TokKind.TheVariants as kind
use Rattle.py_lines.specs.declared.token.Token.{Token}

-- a token without its place: its kind and its bytes
pub record Word : Type 0 where
  pub kind : TokKind
  pub bytes : List ℕ

-- a token of a text as a word
abbrev pub word_in : List ℕ → Token → Word
word_in text t = record { kind = t.kind; bytes = slice_range text t.start t.stop }

-- a piece as a word, if its class has tokens
abbrev pub words_of_piece : Class → List ℕ → List Word
words_of_piece word text = record { kind = if begins is_digit text then kind.Number else kind.Name; bytes = encode_utf8_all text } ∷ []
words_of_piece string text = record { kind = kind.Str; bytes = encode_utf8_all text } ∷ []
words_of_piece operator text = record { kind = kind.Op (first_or_zero text); bytes = encode_utf8_all text } ∷ []
words_of_piece comment text = record { kind = kind.Remark; bytes = encode_utf8_all text } ∷ []
words_of_piece other text = []

-- the words of pieces
abbrev pub words_of : List Piece → List Word
words_of [] = []
words_of (p ∷ ps) = words_of_piece p.class p.text ++ words_of ps

-- a token without the line that it stands on: its kind, and where it lies in its unit
pub record Extent : Type 0 where
  pub kind : TokKind
  pub start : ℕ
  pub stop : ℕ

abbrev pub extent_of : Token → Extent
extent_of t = record { kind = t.kind; start = t.start; stop = t.stop }
