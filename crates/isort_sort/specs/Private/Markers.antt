-- Where import statements may begin in a text, and where `isort:` stands.
use Rattle.std.specs.Prelude.{◌≡◌, ℕ, List, ◌++◌, codes, length}
use Rattle.memchr.specs.Find.{Nowhere, OccursAt}
use Rattle.py_imports.specs.FirstWords.{NoImportBegins}
use Rattle.py_lines.specs.LogicalLine.{LogicalLine}

-- `isort:` begins nowhere in the text from one byte up to another
abbrev pub IsSilentBetween : List ℕ → ℕ → ℕ → Type 0
IsSilentBetween text start stop = Nowhere (OccursAt text (codes "isort:")) start stop

-- nor does an import statement, where a line begins at the first byte
abbrev pub IsFree : List ℕ → ℕ → ℕ → Type 0
IsFree text start stop = NoImportBegins text start stop × IsSilentBetween text start stop

-- these bytes stand in the text at that byte
pub record HoldsBytesAt (text bytes : List ℕ) (start : ℕ) : Type 0 where
  pub before : List ℕ
  pub after : List ℕ
  pub whole : text ≡ before ++ (bytes ++ after)
  pub place : length before ≡ start

-- the line stands in the text at its own byte
abbrev pub HoldsLineAt : List ℕ → LogicalLine → Type 0
HoldsLineAt text line = HoldsBytesAt text line.text line.offset
