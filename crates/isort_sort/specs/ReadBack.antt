-- The sorted text read as any text is: its blocks beside those of the text.
use Rattle.std.specs.Prelude.{◌≡◌, ℕ, true, List, [], ◌∷◌, ◌++◌, map}
use Rattle.std.specs.List.{list_all}
use Rattle.py_lines.specs.LogicalLine.{LogicalLine}
use Rattle.isort_settings.specs.Values.{Values}
use Rattle.isort_sort.specs.Blocks.{Run, run_rows, Cut, rest, block, cut_rows, comments_in, members_of}
use Rattle.isort_sort.specs.BlocksReplaced.{is_comments}
use Rattle.isort_sort.specs.LaidAgain.{as_member, without_above}
use Rattle.isort_sort.specs.Layout.{Laid}
use Rattle.isort_sort.specs.Row.{Row}
use Rattle.isort_sort.specs.Sorted.{first_end, texts_of, IsLayout, HasBlocks}

-- the comments above the first statement
abbrev pub first_above : List Laid → List (List ℕ)
first_above [] = []
first_above (s ∷ ss) = s.above

-- the statements without them
abbrev pub without_first_above : List Laid → List Laid
without_first_above [] = []
without_first_above (s ∷ ss) = without_above s ∷ ss

-- The layout of a run is the text of comments, of a new run and of the rows `others`. The comments are those above the first
-- statement. The new run has the same indentation; its members are the statements of the layout, in order, each with its
-- items, its joined comments and, except the first, the comments above it.
pub record IsReadBack (v : Values) (end : List ℕ) (run new : Run) (blanks after above others : List Row) : Type 0 where
  pub layout : IsLayout v end run blanks after (texts_of (above ++ (run_rows new ++ others)))
  pub are_comments : list_all is_comments above ≡ true
  pub comments : comments_in above ≡ first_above layout.0
  pub indentation : new.first.indentation ≡ run.first.indentation
  pub members : members_of new ≡ map as_member (without_first_above layout.0)

-- Two cuts have their blocks one for one, in order, each of the second read back from the layout of the first's. The other
-- rows are the same, except that the comments above the first statement of a layout stand before its block.
abbrev pub AreReadBack : Values → List ℕ → Cut → Cut → Type 0
AreReadBack v end (rest rows) (rest others) = others ≡ rows
AreReadBack v end (block before run blanks cut) (block ahead new others later) =
    ((above : List Row) × (ahead ≡ before ++ above) × IsReadBack v end run new blanks (cut_rows cut) above others)
    × AreReadBack v end cut later
AreReadBack v end _ _ = ⊥

-- whatever blocks the text has, the sorted text has them back
abbrev pub HasBlocksBack : List ℕ → Values → List ℕ → Type 0
HasBlocksBack text v sorted =
    (lines : List LogicalLine) (cut : Cut) → HasBlocks text lines cut
    → (others : List LogicalLine) × (new : Cut) × HasBlocks sorted others new × AreReadBack v (first_end text) cut new
