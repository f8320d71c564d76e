-- What a run that sorts leaves in its writer, and what one that checks says.
use Rattle.std.specs.Prelude.{◌≤◌, ⊤, ℕ, Bool, List, Option, Ok, IfSome, length}
use Rattle.std.specs.Io.KnownBytes.{IsAtEnd, Keeps}
use Rattle.isort_settings.specs.Values.{Values}
use Rattle.isort_sort.specs.Sorted.{HasFault}
use Rattle.isort_sort.specs.Answers.{Checks}
use Rattle.isort_sort.specs.Written.{WritesSorted, WritesSortedPrefix}
use Rattle.isort_sort.specs.declared.answer.Outcome.{Outcome}
use Rattle.isort_cmd.specs.declared.error.RunError.{RunError}
use Rattle.isort_cmd.specs.declared.error.RunError.TheVariants as run

-- what an error says of the text and leaves: a prefix of the sorted text where a write failed, and else nothing
abbrev pub LeavesUnsorted : List ℕ → Values → RunError → Option (List ℕ) → Option (List ℕ) → Type 0
LeavesUnsorted text v (run.Fault f) old new = HasFault text f × Keeps old new
LeavesUnsorted text v run.Write old new = WritesSortedPrefix text v old new
LeavesUnsorted text v run.Read old new = Keeps old new
LeavesUnsorted text v run.TooLong old new = Keeps old new
LeavesUnsorted text v run.Memory old new = Keeps old new
LeavesUnsorted text v run.NeverEnds old new = Keeps old new

-- the errors of a run that writes nothing
abbrev pub IsUnwritten : RunError → Type 0
IsUnwritten run.Write = ⊥
IsUnwritten _ = ⊤

-- What a reader had, at most `max` bytes, was read to its end, and its sorted text was written.
pub record SortsInput (v : Values) (max : ℕ) (outcome : Outcome) (given left old new : Option (List ℕ)) : Type 0 where
  pub sorts : IfSome given (λ text. WritesSorted text v outcome old new)
  pub within : IfSome given (λ text. length text ≤ max)
  pub end : IsAtEnd left

-- What a reader had, at most `max` bytes, was read to its end, and this is whether it is its own sorted text.
pub record ChecksInput (v : Values) (max : ℕ) (same : Bool) (given left : Option (List ℕ)) : Type 0 where
  pub checks : IfSome given (λ text. Checks text v (Ok same))
  pub within : IfSome given (λ text. length text ≤ max)
  pub end : IsAtEnd left

-- the fault that an error tells is that of the text
abbrev pub TellsFault : List ℕ → RunError → Type 0
TellsFault text (run.Fault f) = HasFault text f
TellsFault text _ = ⊤
