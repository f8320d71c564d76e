-- Rows in which each block is replaced by another, as sorting does.
use Rattle.std.specs.Prelude.{◌≡◌, Bool, true, false, List, ◌++◌}
use Rattle.std.specs.List.{list_all}
use Rattle.isort_sort.specs.Blocks.{is_blank, is_run, Run, Cut, rest, block}
use Rattle.isort_sort.specs.Row.{Role, comments, Row}

-- whether the row is comments
abbrev pub role_is_comments : Role → Bool
role_is_comments (comments cs) = true
role_is_comments _ = false

abbrev pub is_comments : Row → Bool
is_comments row = role_is_comments row.role

-- each run is replaced by one of the same indentation: comments may come before it, and other blank lines after it
pub data AreReplaced : Cut → Cut → Type 0 where
  no_block : (rows : List Row) → AreReplaced (rest rows) (rest rows)
  one_more : (before above : List Row) (run new : Run) (blanks others : List Row) (cut later : Cut)
      → list_all is_comments above ≡ true → is_run new ≡ true → new.first.indentation ≡ run.first.indentation
      → list_all is_blank others ≡ true → AreReplaced cut later
      → AreReplaced (block before run blanks cut) (block (before ++ above) new others later)
