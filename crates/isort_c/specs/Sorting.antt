-- What sorting and checking answer.
use Rattle.std.specs.Prelude.{◌≡◌, ℕ, List, length, Result, Ok, Err, string_bytes}
use Rattle.isort_settings.specs.Values.{Values}
use Rattle.isort_sort.specs.Answers.{Sorts, TellsOutcome}
use Rattle.isort_sort.specs.declared.answer.Outcome.{Outcome}
use Rattle.isort_sort.specs.declared.answer.Outcome.TheVariants as outcome
use Rattle.isort_sort.specs.declared.answer.Sorted.{Sorted}
use Rattle.isort_sort.specs.declared.answer.Sorted.TheVariants as sorted
use Rattle.isort_sort.specs.declared.answer.SortError.{SortError}
use Rattle.isort_sort.specs.declared.answer.SortError.TheVariants as error
use Rattle.isort_c.specs.Answers.{plain_answer, fault_answer, IsUnlessMemory, filled}
use Rattle.isort_c.specs.declared.answer.Answer.{Answer}
use Rattle.isort_c.specs.declared.answer.TheConstants.{SAME, CHANGED, SKIPPED, MEMORY}

-- the answer at an error of sorting: none at `Write`, which no call has that writes nothing
abbrev pub TellsError : SortError → Answer → Type 0
TellsError error.Memory answer = answer ≡ plain_answer MEMORY
TellsError (error.Fault f) answer = answer ≡ fault_answer f
TellsError error.Write answer = ⊥

-- the answer of a sort
abbrev pub TellsSort : Result Sorted SortError → Answer → Type 0
TellsSort (Ok sorted.Same) answer = answer ≡ plain_answer SAME
TellsSort (Ok (sorted.Changed s)) answer = answer ≡ record (plain_answer CHANGED) { size = length (string_bytes s) }
TellsSort (Ok sorted.Skipped) answer = answer ≡ plain_answer SKIPPED
TellsSort (Err e) answer = TellsError e answer

-- what a sort leaves in the buffer: the sorted text where it differs, and else what was there
abbrev pub left_by : Result Sorted SortError → List ℕ → List ℕ
left_by (Ok (sorted.Changed s)) out = filled (string_bytes s) out
left_by (Ok sorted.Same) out = out
left_by (Ok sorted.Skipped) out = out
left_by (Err e) out = out

-- a sort under settings with these values
abbrev pub SortsUnder : List ℕ → Values → Answer → List ℕ → List ℕ → Type 0
SortsUnder text v answer old new =
    (r : Result Sorted SortError) × Sorts text v r × TellsSort r answer × (new ≡ left_by r old)

-- a sort under what the settings stand for
abbrev pub AnswersSort : List ℕ → Result (Values × List (List ℕ)) Answer → Answer → List ℕ → List ℕ → Type 0
AnswersSort text (Ok (v, unknown)) answer old new = SortsUnder text v answer old new
AnswersSort text (Err refused) answer old new = IsUnlessMemory refused answer × (new ≡ old)

-- the answer of a check: that of a sort, with no size
abbrev pub TellsCheck : Result Outcome SortError → Answer → Type 0
TellsCheck (Ok outcome.Same) answer = answer ≡ plain_answer SAME
TellsCheck (Ok outcome.Changed) answer = answer ≡ plain_answer CHANGED
TellsCheck (Ok outcome.Skipped) answer = answer ≡ plain_answer SKIPPED
TellsCheck (Err e) answer = TellsError e answer

-- a check under settings with these values
abbrev pub ChecksUnder : List ℕ → Values → Answer → Type 0
ChecksUnder text v answer = (r : Result Outcome SortError) × TellsOutcome text v r × TellsCheck r answer

-- a check under what the settings stand for
abbrev pub AnswersCheck : List ℕ → Result (Values × List (List ℕ)) Answer → Answer → Type 0
AnswersCheck text (Ok (v, unknown)) answer = ChecksUnder text v answer
AnswersCheck text (Err refused) answer = IsUnlessMemory refused answer
