-- The layout of a block that was found, with what is left of it to be written, and how far the program is in a sorted text.
use Rattle.std.specs.Prelude.{◌≡◌, ℕ, ◌+◌, false, List, [], ◌++◌, Option, MatchOption, option_map}
use Rattle.std.specs.Prelude.{◌∷◌, length, map, string_bytes}
use Rattle.std.specs.List.{AllByRecursion}
use Rattle.std.specs.Str.{IsUtf8}
use Rattle.isort_settings.specs.Values.{Values, values}
use Rattle.isort_sort.specs.Blocks.{Cut, cut_rows}
use Rattle.isort_sort.specs.Private.Found.{Found, blanks_of, found_from}
use Rattle.isort_sort.specs.Private.Group.{Group, group_value}
use Rattle.isort_sort.specs.Private.LineEnd.{end_bytes}
use Rattle.isort_sort.specs.Private.Packing.{lines_left, HasSection}
use Rattle.isort_sort.specs.Layout.{Laid, AreLaid, block_lines, text_of_lines}
use Rattle.isort_sort.specs.Row.{Row}
use Rattle.isort_sort.specs.Sorted.{texts_of, IsSortedCut}
use Rattle.isort_sort.specs.declared.arrange.Arrangement.{Arrangement}

-- the text is a layout of the block, with the blank lines after it
abbrev pub IsArranged : Values → List ℕ → Found → List ℕ → Type 0
IsArranged v end f text =
    (laid : List Laid) × AreLaid v f.indentation f.members laid
    × (text ≡ text_of_lines end f.ended (blanks_of v f) (block_lines v f.indentation end laid))

-- the text of statements, which follow one or none, and of the blank lines that are left
abbrev pub text_of_groups : Arrangement → Option Group → List Group → List ℕ
text_of_groups a before groups =
    text_of_lines (end_bytes a.end) a.ended a.blanks
    (lines_left (values a.settings.now) (string_bytes a.indentation) (end_bytes a.end) before groups)

-- the text of the statements and blank lines that are left
abbrev pub text_left : Arrangement → List ℕ
text_left a = text_of_groups a (option_map group_value a.before) (map group_value a.groups.rest.items)

-- no more pieces than these are left
abbrev pub pieces_left : Arrangement → ℕ
pieces_left a = length a.groups.rest.items + a.blanks

-- statements have their sections; a block whose last line has no line end has no blank lines after it
pub record IsReady (a : Arrangement) : Type 0 where
  pub before : MatchOption a.before (Unit {0}) (HasSection (values a.settings.now))
  pub sections : AllByRecursion (HasSection (values a.settings.now)) a.groups.rest.items
  pub blanks : a.ended ≡ false → a.blanks ≡ 0

-- the texts of rows are UTF-8
abbrev pub AreUtf8 : List Row → Type 0
AreUtf8 [] = Unit {0}
AreUtf8 (row ∷ rows) = IsUtf8 row.text × AreUtf8 rows

-- the text is a byte order mark or nothing, and rows cut at blocks, which these are
pub record IsCutText (text mark : List ℕ) (cut : Cut) (found : List Found) : Type 0 where
  pub split : text ≡ mark ++ texts_of (cut_rows cut)
  pub spans : found ≡ found_from (length mark) cut
  pub utf8_mark : IsUtf8 mark
  pub utf8 : AreUtf8 (cut_rows cut)

-- the text up to the byte `at` was passed, and what is written is sorted whatever sorts the rest; these blocks are left
pub record IsArranging (text : List ℕ) (v : Values) (end mark : List ℕ) (cut : Cut) (left : List Found) (at : ℕ)
    (out : List ℕ) : Type 0 where
  pub passed : List ℕ
  pub rest : Cut
  pub done : List ℕ
  pub split : text ≡ passed ++ texts_of (cut_rows rest)
  pub place : at ≡ length passed
  pub spans : left ≡ found_from at rest
  pub utf8 : AreUtf8 (cut_rows rest)
  pub written : out ≡ mark ++ done
  pub goes_on : (others : List ℕ) → IsSortedCut v end rest others → IsSortedCut v end cut (done ++ others)
