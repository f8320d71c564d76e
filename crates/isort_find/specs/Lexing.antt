-- Where a logical line of a text begins.
use Rattle.std.specs.Prelude.{◌≡◌, ℕ, ◌+◌, List, [], ◌∷◌, ◌++◌, length}
use Rattle.py_lines.specs.LogicalLine.{LogicalLine}
use Rattle.py_lines.specs.Lexed.{BeginsLexing}

-- how many bytes these logical lines have
abbrev pub byte_count : List LogicalLine → ℕ
byte_count [] = 0
byte_count (line ∷ lines) = length line.text + byte_count lines

-- a logical line of the text begins at this byte, and P says what it is
pub record LineAt (text : List ℕ) (offset : ℕ) (P : LogicalLine → Type 0) : Type 0 where
  pub before : List LogicalLine
  pub line : LogicalLine
  pub begins : BeginsLexing text (before ++ line ∷ [])
  pub place : byte_count before ≡ offset
  pub is : P line
