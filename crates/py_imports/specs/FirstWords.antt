-- Where import statements may begin in a text, by its bytes alone. Python Language Reference, 7, 7.11 and 8.
use Rattle.std.specs.Prelude.{◌≡◌, ℕ, ◌+◌, ◌<◌, ◌≤◌, Bool, true, ◌||◌, ◌⊎◌, List, ◌++◌, codes, length, nat_le, slice_index, slice_range}
use Rattle.std.specs.List.{flat_map}
use Rattle.memchr.specs.Find.{Nowhere, OccursAt}
use Rattle.py_lines.specs.Character.{is_one_of, is_space}
use Rattle.py_lines.specs.Given.{AreFirstLines}
use Rattle.py_lines.specs.LogicalLine.{LogicalLine}

-- Whether a statement may begin after this byte, spaces aside: LF, CR, `;`, `:`, or one from 128 on, as a byte order mark ends with.
abbrev pub opens_statement : ℕ → Bool
opens_statement b = is_one_of (codes "\n\r;:") b || nat_le 128 b

-- byte `from` is byte `start`, or comes directly after such a byte
abbrev pub StandsOpen : List ℕ → ℕ → ℕ → Type 0
StandsOpen text start from = (from ≡ start) ⊎ ((i : ℕ) × (from ≡ i + 1) × (opens_statement (slice_index text i) ≡ true))

-- A statement may begin at byte `place`, where a line begins at byte `start`: between them, or between it and such a byte, stand
-- only spaces.
pub record MayBegin (text : List ℕ) (start place : ℕ) : Type 0 where
  pub from : ℕ
  pub low : start ≤ from
  pub high : from ≤ place
  pub spaces : (i : ℕ) → from ≤ i → i < place → is_space (slice_index text i) ≡ true
  pub opens : StandsOpen text start from

-- an import statement may begin there: `import` or `from` stands there too
abbrev pub ImportMayBegin : List ℕ → ℕ → ℕ → Type 0
ImportMayBegin text start place = MayBegin text start place × (OccursAt text (codes "import") place ⊎ OccursAt text (codes "from") place)

-- no import statement begins in the text from byte `start`, where a line begins, up to byte `stop`
abbrev pub NoImportBegins : List ℕ → ℕ → ℕ → Type 0
NoImportBegins text start stop = Nowhere (ImportMayBegin text start) start stop

-- the text ends there, or an import statement may begin there
abbrev pub EndsAtImport : List ℕ → ℕ → ℕ → Type 0
EndsAtImport text start stop = (stop ≡ length text) ⊎ ImportMayBegin text start stop

-- Logical lines that were read, the last ones as far as was read: their bytes, one line after another, are those of a part of a text
-- in which no import statement begins from its start on.
pub record LieWithoutImport (lines : List LogicalLine) : Type 0 where
  pub text : List ℕ
  pub place : ℕ
  pub row : ℕ
  pub before : List LogicalLine
  pub first : AreFirstLines text place row (before ++ lines)
  pub part : List ℕ
  pub start : ℕ
  pub to : ℕ
  pub stop : ℕ
  pub none : NoImportBegins part start stop
  pub ordered : start ≤ to
  pub clear : to ≤ stop
  pub within : to ≤ length part
  pub bytes : flat_map (λ line. line.text) lines ≡ slice_range part start to
