-- What the program knows of the lines of a text that it has read.
use Rattle.std.specs.Prelude.{◌≡◌, ◌<◌, ◌≤◌, ℕ, ◌+◌, Bool, true, false, not, nat_lt, None, Result, Ok, Err, List, [], ◌∷◌, ◌++◌}
use Rattle.std.specs.Prelude.{flat_map, length, map, drop}
use Rattle.std.specs.List.{list_any}
use Rattle.std.specs.Str.{IsUtf8}
use Rattle.py_lines.specs.LogicalLine.{LogicalLine}
use Rattle.py_lines.specs.Reader.{Reader, HasGiven}
use Rattle.py_imports.specs.Binds.{BindAll}
use Rattle.py_imports.specs.BindingValue.{BindingValue}
use Rattle.py_imports.specs.Shape.{is_nothing}
use Rattle.py_imports.specs.Statement.{significant}
use Rattle.isort_sort.specs.Answers.{IsRefused}
use Rattle.isort_sort.specs.Private.Arranged.{AreUtf8, IsCutText}
use Rattle.isort_sort.specs.Blocks.{Cut}
use Rattle.isort_sort.specs.Private.Found.{Finding, IsFinding, found_value}
use Rattle.isort_sort.specs.Row.{Row, HasRole, indentation_of, is_off_after, mark_after, AreRows, skips_file}
use Rattle.isort_sort.specs.Sorted.{mark_of, IsAccepted, IsSkipped, HasBlocks}
use Rattle.isort_sort.specs.declared.answer.SortError.{SortError}
use Rattle.isort_sort.specs.declared.read.FoundText.{FoundText}
use Rattle.isort_sort.specs.declared.read.FoundText.TheVariants as found
use Rattle.isort_sort.specs.declared.read.LineReader.{LineReader}
use Rattle.isort_sort.specs.declared.skip.SkipReader.{SkipReader}

-- whether there is a line
abbrev pub is_some_line : List LogicalLine → Bool
is_some_line [] = false
is_some_line (line ∷ lines) = true

-- whether a line has a token that is no comment
abbrev pub has_code : LogicalLine → Bool
has_code line = not (is_nothing (significant line.tokens))

-- the texts of lines
abbrev pub texts_of_lines : List LogicalLine → List ℕ
texts_of_lines lines = flat_map (λ line. line.text) lines

-- the line stands directly after these
abbrev pub StandsAfter : List LogicalLine → LogicalLine → Type 0
StandsAfter lines line = line.offset ≡ length (texts_of_lines lines)

-- the byte after a line
abbrev pub stop_of : LogicalLine → ℕ
stop_of line = line.offset + length line.text

-- whether these lines ask for the text to be left as it is, and whether they have a token that is no comment
pub record IsSkipSoFar (lines : List LogicalLine) (r : SkipReader) : Type 0 where
  pub skips : r.skips ≡ skips_file lines
  pub begun : r.begun ≡ list_any has_code lines

-- whatever lines were read, this one is read after them
abbrev pub ReadsSkip : LogicalLine → SkipReader → SkipReader → Type 0
ReadsSkip line old new = (lines : List LogicalLine) → IsSkipSoFar lines old → IsSkipSoFar (lines ++ line ∷ []) new

-- the row of a line that begins with so many bytes of a byte order mark, where sorting is off before it or not
pub record IsRowOf (off : Bool) (mark : ℕ) (line : LogicalLine) (row : Row) : Type 0 where
  pub role : HasRole off line row.role
  pub text : row.text ≡ drop mark line.text
  pub indentation : row.indentation ≡ indentation_of line
  pub ended : row.ended ≡ nat_lt 0 line.end_len
  pub utf8 : IsUtf8 line.text

-- whatever rows the blocks were found of, up to the line or to the byte order mark that it begins with, those of the line's row
-- too are found, up to its end
pub record FindsLine (off : Bool) (line : LogicalLine) (old new : Finding) : Type 0 where
  pub place : new.place ≡ stop_of line
  pub finds : (mark start : ℕ) (rows : List Row) → old.place ≡ line.offset + mark → mark ≤ length line.text
      → IsFinding start rows old
      → (row : Row) × IsRowOf off mark line row × IsFinding start (rows ++ row ∷ []) new

-- the rows of the lines, as far as their blocks are found
pub record IsReadSoFar (lines : List LogicalLine) (r : LineReader) : Type 0 where
  pub rows : List Row
  pub seen : AreRows [] lines rows
  pub utf8 : AreUtf8 rows
  pub finding : IsFinding (length (mark_of lines)) rows r.blocks
  pub place : r.blocks.place ≡ length (texts_of_lines lines)
  pub begun : r.begun ≡ is_some_line lines
  pub off : r.off ≡ is_off_after lines
  pub skip : IsSkipSoFar lines r.skip

-- the same before this line, where the text's byte order mark is known from it
pub record IsReadBefore (lines : List LogicalLine) (line : LogicalLine) (r : LineReader) : Type 0 where
  pub rows : List Row
  pub seen : AreRows [] lines rows
  pub utf8 : AreUtf8 rows
  pub finding : IsFinding (length (mark_of (lines ++ line ∷ []))) rows r.blocks
  pub place : r.blocks.place ≡ length (texts_of_lines lines) + mark_after lines line
  pub begun : r.begun ≡ true
  pub off : r.off ≡ is_off_after lines
  pub skip : IsSkipSoFar lines r.skip

-- whatever lines were read, this one, which stands after them, is read too
abbrev pub ReadsLine : LogicalLine → LineReader → LineReader → Type 0
ReadsLine line old new =
    (lines : List LogicalLine) → StandsAfter lines line → IsReadSoFar lines old → IsReadSoFar (lines ++ line ∷ []) new

-- code was read, and no block may go on
abbrev pub MayPass : LineReader → Type 0
MayPass r = (r.skip.begun ≡ true) × (r.blocks.opened ≡ None)

-- the lines that were given bind something, and the blocks of their rows are found
pub record IsKnown (reader : Reader) (r : LineReader) : Type 0 where
  pub given : List LogicalLine
  pub values : List BindingValue
  pub within : reader.place ≤ length reader.text
  pub are_given : HasGiven reader given
  pub bind : BindAll given values
  pub so_far : IsReadSoFar given r

-- the text was read to its end: its lines are accepted, and their rows' blocks are found
pub record IsWholeRead (text : List ℕ) (r : LineReader) : Type 0 where
  pub lines : List LogicalLine
  pub accepted : IsAccepted text lines
  pub so_far : IsReadSoFar lines r

-- what a call that reads the next line answers: one line more is known; or the text is read to its end; or it is refused
abbrev pub ReadsOver : Reader → Result Bool SortError → Reader → LineReader → Type 0
ReadsOver before (Ok true) after new = IsKnown after new × (after.text ≡ before.text) × (before.place < after.place)
ReadsOver before (Ok false) after new = IsWholeRead before.text new
ReadsOver before (Err e) after new = IsRefused before.text e

-- what was found in a text: that it is skipped, or its blocks
abbrev pub IsFoundIn : List ℕ → FoundText → Type 0
IsFoundIn text found.Skipped = IsSkipped text
IsFoundIn text (found.Blocks blocks) =
    (lines : List LogicalLine) × (cut : Cut) × HasBlocks text lines cut × IsCutText text (mark_of lines) cut (map found_value blocks.items)
