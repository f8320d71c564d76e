-- The sorted text.
use Rattle.std.specs.Prelude.{◌≡◌, nat_lt, ℕ, ◌==◌, Bool, true, false, ◌⊎◌, List, [], ◌∷◌, ◌++◌, flat_map}
use Rattle.std.specs.Prelude.{length, take, ℤ, pos, negsuc, count_by, if◌then◌else◌, Option, None, Some}
use Rattle.py_lines.specs.LogicalLine.{LogicalLine}
use Rattle.py_lines.specs.Piece.{begins}
use Rattle.py_lines.specs.Lexed.{IsLexed}
use Rattle.py_lines.specs.declared.fault.Fault.{Fault}
use Rattle.py_imports.specs.BindingValue.{BindingValue}
use Rattle.py_imports.specs.Binds.{BindAll, IsBadAt}
use Rattle.py_imports.specs.Shape.{mark_len}
use Rattle.isort_settings.specs.Values.{Values}
use Rattle.isort_sort.specs.Blocks.{Run, Further, Cut, rest, block, cut_rows, IsCutAtBlocks, members_of}
use Rattle.isort_sort.specs.Layout.{Laid, AreLaid, block_lines, text_of_lines}
use Rattle.isort_sort.specs.Row.{Before, two, as_many, one, Role, comments, other, Row, AreRows, skips_file}

-- the first line end of a text, or LF
abbrev pub first_end : List ℕ → List ℕ
first_end [] = 10 ∷ []
first_end (b ∷ text) =
    if b == 10 then 10 ∷ []
    else (if b == 13 then (if begins (λ c. c == 10) text then 13 ∷ 10 ∷ [] else 13 ∷ []) else first_end text)

-- the last row of a run
abbrev pub last_row : Row → List Further → Row
last_row row [] = row
last_row row (f ∷ fs) = last_row f.row fs

-- whether the members of a run are indented
abbrev pub is_indented : Run → Bool
is_indented run = nat_lt 0 (length run.first.indentation)

-- what a row asks of the blank lines before it
abbrev pub before_role : Role → Before
before_role (comments cs) = as_many
before_role (other b) = b
before_role _ = one

abbrev pub number_before : ℕ → Before → ℕ
number_before kept two = 2
number_before kept as_many = kept
number_before kept one = 1

-- how many blank lines the settings ask for, or `by_row`
abbrev pub asked : ℤ → ℕ → ℕ
asked (pos n) by_row = n
asked (negsuc n) by_row = by_row

-- how many blank lines stand after a block, before these rows, where there were `kept`
abbrev pub blanks_after : Values → Run → ℕ → List Row → ℕ
blanks_after v run kept [] = kept
blanks_after v run kept (row ∷ rows) =
    if is_indented run then kept else asked v.lines_after_imports (number_before kept (before_role row.role))

-- the layout of a block, with the blank lines that stood after it, before these rows
abbrev pub IsLayout : Values → List ℕ → Run → List Row → List Row → List ℕ → Type 0
IsLayout v end run blanks after text =
    (laid : List Laid) × AreLaid v run.first.indentation (members_of run) laid
    × (text ≡ text_of_lines end (last_row run.first run.others).ended
    (blanks_after v run (count_by (λ row. row.ended) blanks) after) (block_lines v run.first.indentation end laid))

-- the text of rows
abbrev pub texts_of : List Row → List ℕ
texts_of rows = flat_map (λ row. row.text) rows

-- rows with each block replaced by its layout
abbrev pub IsSortedCut : Values → List ℕ → Cut → List ℕ → Type 0
IsSortedCut v end (rest rows) text = text ≡ texts_of rows
IsSortedCut v end (block before run blanks cut) text =
    (own others : List ℕ) × (text ≡ texts_of before ++ (own ++ others))
    × IsLayout v end run blanks (cut_rows cut) own × IsSortedCut v end cut others

-- the byte order mark of a text
abbrev pub mark_of : List LogicalLine → List ℕ
mark_of [] = []
mark_of (line ∷ lines) = take (mark_len line) line.text

-- a text that is accepted, with its lines
pub record IsAccepted (text : List ℕ) (lines : List LogicalLine) : Type 0 where
  pub values : List BindingValue
  pub lexed : IsLexed text lines None
  pub good : BindAll lines values

-- the first bad import statement of a text; a lexical fault may follow
pub record HasBadImport (text : List ℕ) (fault : Fault) : Type 0 where
  pub before : List LogicalLine
  pub line : LogicalLine
  pub after : List LogicalLine
  pub end : Option Fault
  pub values : List BindingValue
  pub lexed : IsLexed text (before ++ line ∷ after) end
  pub good : BindAll before values
  pub bad : IsBadAt line fault

-- the lexical fault of a text without bad import statements before it
pub record HasLexicalFault (text : List ℕ) (fault : Fault) : Type 0 where
  pub lines : List LogicalLine
  pub values : List BindingValue
  pub lexed : IsLexed text lines (Some fault)
  pub good : BindAll lines values

-- the fault of a text
abbrev pub HasFault : List ℕ → Fault → Type 0
HasFault text fault = HasBadImport text fault ⊎ HasLexicalFault text fault

-- an accepted text that asks to be left as it is
abbrev pub IsSkipped : List ℕ → Type 0
IsSkipped text = (lines : List LogicalLine) × IsAccepted text lines × (skips_file lines ≡ true)

-- the lines of an accepted text that isn't skipped, cut at its blocks
pub record HasBlocks (text : List ℕ) (lines : List LogicalLine) (cut : Cut) : Type 0 where
  pub accepted : IsAccepted text lines
  pub unskipped : skips_file lines ≡ false
  pub rows : List Row
  pub seen : AreRows [] lines rows
  pub cut_at : IsCutAtBlocks rows cut

-- the text, which isn't skipped, with each block replaced by its layout
pub record IsLaidOut (text : List ℕ) (v : Values) (sorted : List ℕ) : Type 0 where
  pub lines : List LogicalLine
  pub cut : Cut
  pub blocks : HasBlocks text lines cut
  pub body : List ℕ
  pub layouts : IsSortedCut v (first_end text) cut body
  pub is : sorted ≡ mark_of lines ++ body

-- the sorted text: a skipped text as it is, any other with each block replaced by its layout
abbrev pub IsSorted : List ℕ → Values → List ℕ → Type 0
IsSorted text v sorted = IsSkipped text × (sorted ≡ text) ⊎ IsLaidOut text v sorted
