-- What a line says to isort, as the program finds it by one look, and texts that say nothing.
use Rattle.std.specs.Prelude.{◌≡◌, ℕ, Bool, false, not, ◌||◌, ◌&&◌, List, ◌++◌, codes, slice_get}
use Rattle.std.specs.List.{list_any}
use Rattle.py_lines.specs.LogicalLine.{LogicalLine}
use Rattle.py_imports.specs.ActionComment.{says}
use Rattle.py_imports.specs.Statement.{significant}
use Rattle.py_imports.specs.declared.action_comment.ActionComment.TheVariants as action
use Rattle.isort_sort.specs.Line.{comment_texts}
use Rattle.isort_sort.specs.Row.{says_alone, string_skips}
use Rattle.isort_sort.specs.declared.actions.Actions.{Actions}

-- `isort:` stands nowhere in the text
abbrev pub IsSilent : List ℕ → Type 0
IsSilent text = (before after : List ℕ) → ¬ (text ≡ before ++ (codes "isort:" ++ after))

-- a line's comments say these actions, and so does a string that the line begins with
pub record AreActions (line : LogicalLine) (a : Actions) : Type 0 where
  pub skip_file : a.skip_file ≡ list_any (says action.SkipFile) (comment_texts line)
  pub string : a.string_skips ≡ string_skips line (slice_get (significant line.tokens) 0)
  pub off : a.off ≡ says_alone action.Off line
  pub on : a.on ≡ says_alone action.On line
  pub split : a.split ≡ says_alone action.Split line

-- no action
abbrev pub no_actions : Actions
no_actions = record { skip_file = false; string_skips = false; off = false; on = false; split = false }

-- whether a line asks for its text to be left as it is, where code stands before it or not
abbrev pub asks_to_skip : Bool → LogicalLine → Bool
asks_to_skip begun line =
    list_any (says action.SkipFile) (comment_texts line)
    || (not begun && string_skips line (slice_get (significant line.tokens) 0))
