-- Texts as Python 3.11 reads them: what stands between a string's quotes is no more than characters, whatever the prefix.
use Rattle.std.specs.Prelude.{◌≡◌, ℕ, Option, false, List}
use Rattle.py_lines.specs.Piece.{Piece}
use Rattle.py_lines.specs.LogicalLine.{LogicalLine}
use Rattle.py_lines.specs.FieldStrings.{may_have_fields}
use Rattle.py_lines.specs.Dialect.{plain_dialect}
use Rattle.py_lines.specs.Reading.{Decodes, IsReadingIn}
use Rattle.py_lines.specs.Lexed.{IsLexedIn}
use Rattle.py_lines.specs.declared.fault.Fault.{Fault}

-- the pieces read these characters whole, with their brackets in pairs and at most 200 open
abbrev pub IsPlainReading : List Piece → List ℕ → Type 0
IsPlainReading = IsReadingIn plain_dialect

-- the logical lines of a text, and then its end or its lexical fault
abbrev pub IsPlainLexed : List ℕ → List LogicalLine → Option Fault → Type 0
IsPlainLexed = IsLexedIn plain_dialect

-- In the characters of the text, up to the first bytes that begin none, neither `f` nor `t`, alone or followed by `r`, stands
-- directly before a quote.
pub record HasNoFields (text : List ℕ) : Type 0 where
  pub characters : List ℕ
  pub tail : List ℕ
  pub decodes : Decodes text characters tail
  pub none : may_have_fields characters ≡ false
