-- What a text is to its reader: logical lines, and then its end or its lexical fault (`IsLexed`). What it is to read a text
-- stands in Reading, what a logical line is in LogicalLine, and where a fault stands in Faults. The names with `In` at their end
-- say it of any dialect.
use Rattle.std.specs.Prelude.{◌≡◌, ℕ, Option, None, Some, List, [], ◌++◌}
use Rattle.py_lines.specs.Piece.{Piece}
use Rattle.py_lines.specs.LogicalLine.{LogicalLine, lines_of}
use Rattle.py_lines.specs.declared.fault.Fault.{Fault}
use Rattle.py_lines.specs.Dialect.{Dialect, fielded_dialect}
use Rattle.py_lines.specs.Reading.{Decodes, IsReadingIn, IsReadPrefixIn}
use Rattle.py_lines.specs.Faults.{IsLexicalFaultIn}

-- the text has a balanced reading, and these are its logical lines
pub record IsLexedWholeIn (dialect : Dialect) (text : List ℕ) (lines : List LogicalLine) : Type 0 where
  pub characters : List ℕ
  pub pieces : List Piece
  pub decodes : Decodes text characters []
  pub reading : IsReadingIn dialect pieces characters
  pub cut : lines ≡ lines_of pieces

-- The text has this fault, and these are the logical lines of its longest prefix that has a balanced reading and ends
-- a line.
pub record IsLexedToFaultIn (dialect : Dialect) (text : List ℕ) (lines : List LogicalLine) (fault : Fault) : Type 0 where
  pub characters : List ℕ
  pub tail : List ℕ
  pub pieces : List Piece
  pub decodes : Decodes text characters tail
  pub prefix : IsReadPrefixIn dialect pieces characters
  pub refused : IsLexicalFaultIn dialect characters tail fault
  pub cut : lines ≡ lines_of pieces

-- the logical lines of a text, and then its end or its lexical fault
abbrev pub IsLexedIn : Dialect → List ℕ → List LogicalLine → Option Fault → Type 0
IsLexedIn dialect text lines None = IsLexedWholeIn dialect text lines
IsLexedIn dialect text lines (Some fault) = IsLexedToFaultIn dialect text lines fault

-- the logical lines of a text, and then its end or its lexical fault, where strings hold fields
abbrev pub IsLexed : List ℕ → List LogicalLine → Option Fault → Type 0
IsLexed = IsLexedIn fielded_dialect

abbrev pub IsLexedWhole : List ℕ → List LogicalLine → Type 0
IsLexedWhole = IsLexedWholeIn fielded_dialect

abbrev pub IsLexedToFault : List ℕ → List LogicalLine → Fault → Type 0
IsLexedToFault = IsLexedToFaultIn fielded_dialect

-- the lines begin the lexing of the text: others may follow, and then its end or its fault
pub record BeginsLexing (text : List ℕ) (lines : List LogicalLine) : Type 0 where
  pub more : List LogicalLine
  pub end : Option Fault
  pub lexed : IsLexed text (lines ++ more) end
