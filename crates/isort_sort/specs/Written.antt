-- What sorting to a writer leaves in it.
use Rattle.std.specs.Prelude.{◌≡◌, ℕ, List, Option, ◌++◌}
use Rattle.std.specs.Io.KnownBytes.{Appends, Keeps}
use Rattle.isort_settings.specs.Values.{Values}
use Rattle.isort_sort.specs.ReadBack.{HasBlocksBack}
use Rattle.isort_sort.specs.Sorted.{HasFault, IsSorted}
use Rattle.isort_sort.specs.Answers.{IsSortedAs}
use Rattle.isort_sort.specs.declared.answer.Outcome.{Outcome}
use Rattle.isort_sort.specs.declared.answer.SortError.{SortError}
use Rattle.isort_sort.specs.declared.answer.SortError.TheVariants as error

-- known bytes grow by a prefix of these
pub record AppendsPrefix (old new : Option (List ℕ)) (bytes : List ℕ) : Type 0 where
  pub prefix : List ℕ
  pub rest : List ℕ
  pub split : prefix ++ rest ≡ bytes
  pub appended : Appends old new prefix

-- the sorted text was written whole; sorted again under the same settings, it stays as it is, and it has the blocks of the
-- text back
pub record WritesSorted (text : List ℕ) (v : Values) (outcome : Outcome) (old new : Option (List ℕ)) : Type 0 where
  pub sorted : List ℕ
  pub is : IsSortedAs text v outcome sorted
  pub stays : IsSorted sorted v sorted
  pub read_back : HasBlocksBack text v sorted
  pub written : Appends old new sorted

-- a prefix of the sorted text was written
pub record WritesSortedPrefix (text : List ℕ) (v : Values) (old new : Option (List ℕ)) : Type 0 where
  pub sorted : List ℕ
  pub is : IsSorted text v sorted
  pub written : AppendsPrefix old new sorted

-- what an error says of the text and leaves: a prefix of the sorted text where a write failed, and else nothing
abbrev pub LeavesUnwritten : List ℕ → Values → SortError → Option (List ℕ) → Option (List ℕ) → Type 0
LeavesUnwritten text v (error.Fault fault) old new = HasFault text fault × Keeps old new
LeavesUnwritten text v error.Write old new = WritesSortedPrefix text v old new
LeavesUnwritten text v error.Memory old new = Keeps old new
