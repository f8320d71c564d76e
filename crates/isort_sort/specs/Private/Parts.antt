-- A sorted text in parts, as the program makes it.
use Rattle.std.specs.Prelude.{◌≡◌, ℕ, ◌≤◌, ◌<◌, List, [], ◌++◌, length, map, flat_map}
use Rattle.std.specs.Prelude.{slice_range, string_bytes, Option, None, Some}
use Rattle.std.specs.List.{All}
use Rattle.std.specs.Str.{IsUtf8}
use Rattle.py_lines.specs.LogicalLine.{LogicalLine}
use Rattle.isort_settings.specs.Values.{Values, values}
use Rattle.isort_sort.specs.Private.Arranged.{text_left, IsArranging}
use Rattle.isort_sort.specs.Blocks.{Cut}
use Rattle.isort_sort.specs.Private.Found.{Found, found_value}
use Rattle.isort_sort.specs.Private.LineEnd.{end_bytes}
use Rattle.isort_sort.specs.Sorted.{first_end, mark_of, HasBlocks}
use Rattle.isort_sort.specs.declared.parts.Part.{Part}
use Rattle.isort_sort.specs.declared.parts.Parts.{Parts}
use Rattle.isort_sort.specs.declared.sorted_text.Piece.{Piece}
use Rattle.isort_sort.specs.declared.sorted_text.Piece.TheVariants as piece
use Rattle.isort_sort.specs.declared.sorted_text.SortedText.{SortedText}

-- the bytes of a part, whose layout isn't made yet
abbrev pub part_text : Part → List ℕ
part_text p = p.before.now ++ text_left p.layout

-- the blocks that are left
abbrev pub parts_left : Parts → List Found
parts_left p = map found_value p.blocks.rest.items

-- the bytes of a sorted text
abbrev pub piece_bytes : Piece → List ℕ
piece_bytes (piece.Kept bytes) = bytes.now
piece_bytes (piece.Laid layout) = string_bytes layout

abbrev pub bytes_of : List Piece → List ℕ
bytes_of pieces = flat_map piece_bytes pieces

abbrev pub sorted_bytes : SortedText → List ℕ
sorted_bytes s = bytes_of s.pieces.items

-- each piece is UTF-8
abbrev pub AreTexts : List Piece → Type 0
AreTexts pieces = All (λ p. IsUtf8 (piece_bytes p)) pieces

-- `out` was made of the text, and the text from `p.at` on is left: up to a place `at` as it is, and then as rows cut at
-- blocks
pub record HasMade (text : List ℕ) (v : Values) (p : Parts) (out : List ℕ) : Type 0 where
  pub lines : List LogicalLine
  pub cut : Cut
  pub blocks : HasBlocks text lines cut
  pub same_text : p.text.now ≡ text
  pub same_values : values p.settings.now ≡ v
  pub same_end : end_bytes p.end ≡ first_end text
  pub at : ℕ
  pub ordered : p.at ≤ at
  pub within : at ≤ length text
  pub utf8 : IsUtf8 (slice_range text p.at at)
  pub arranging : IsArranging text v (first_end text) (mark_of lines) cut (parts_left p) at (out ++ slice_range text p.at at)

-- the next part, after which the parts have made it too, and fewer blocks are left; none where no block is left
abbrev pub Makes : Parts → Option Part → Parts → Type 0
Makes old None new =
    (parts_left new ≡ [])
    × ((text : List ℕ) (v : Values) (out : List ℕ) → HasMade text v old out → HasMade text v new out)
Makes old (Some part) new =
    (length (parts_left new) < length (parts_left old))
    × ((text : List ℕ) (v : Values) (out : List ℕ) → HasMade text v old out
    → IsUtf8 part.before.now × HasMade text v new (out ++ part_text part))
