-- What listing answers.
use Rattle.std.specs.Prelude.{◌≡◌, ℕ, Bool, ◌==◌, Option, None, Some, Result, Ok, Err, List, length, if◌then◌else◌}
use Rattle.py_lines.specs.declared.fault.Fault.{Fault}
use Rattle.py_imports.specs.BindingValue.{BindingValue}
use Rattle.isort_find.specs.Found.{IsFound}
use Rattle.isort_find.specs.declared.error.FindError.{FindError}
use Rattle.isort_find.specs.declared.error.FindError.TheVariants as error
use Rattle.isort_find.specs.declared.options.FindOptions.{FindOptions}
use Rattle.isort_find.specs.declared.options.ImportKey.{ImportKey}
use Rattle.isort_find.specs.declared.options.ImportKey.TheVariants as key
use Rattle.isort_c.specs.Answers.{plain_answer, fault_answer, filled}
use Rattle.isort_c.specs.Records.{value_records}
use Rattle.isort_c.specs.declared.answer.Answer.{Answer}
use Rattle.isort_c.specs.declared.answer.TheConstants.{SAME, MEMORY, ARGUMENT}

-- the key of a number: 0 is none
abbrev pub unique_at : ℕ → Result (Option ImportKey) Answer
unique_at n =
    if n == 0 then Ok None else if n == 1 then Ok (Some key.Package) else if n == 2 then Ok (Some key.Module)
    else if n == 3 then Ok (Some key.Attribute) else if n == 4 then Ok (Some key.Alias)
    else Err (plain_answer ARGUMENT)

-- the records of all imports that are found up to this end
pub record Lists (text : List ℕ) (options : FindOptions) (end : Option Fault) (bytes : List ℕ) : Type 0 where
  pub values : List BindingValue
  pub found : IsFound text options values end
  pub written : bytes ≡ value_records values

-- the records of a listing; nothing is said where memory ran out
abbrev pub IsListing : List ℕ → FindOptions → Result (Unit {0}) FindError → List ℕ → Type 0
IsListing text options (Ok _) bytes = Lists text options None bytes
IsListing text options (Err (error.Fault fault)) bytes = Lists text options (Some fault) bytes
IsListing text options (Err error.Memory) bytes = Unit {0}

-- the answer of a listing
abbrev pub list_answer : Result (Unit {0}) FindError → List ℕ → Answer
list_answer (Ok _) bytes = record (plain_answer SAME) { size = length bytes }
list_answer (Err (error.Fault fault)) bytes = record (fault_answer fault) { size = length bytes }
list_answer (Err error.Memory) bytes = plain_answer MEMORY

-- what a listing leaves in the buffer: the records, unless memory ran out
abbrev pub list_left : Result (Unit {0}) FindError → List ℕ → List ℕ → List ℕ
list_left (Ok _) bytes out = filled bytes out
list_left (Err (error.Fault fault)) bytes out = filled bytes out
list_left (Err error.Memory) bytes out = out

-- a listing, and what it leaves in the buffer
abbrev pub AnswersList : List ℕ → FindOptions → Answer → List ℕ → List ℕ → Type 0
AnswersList text options answer old new =
    (r : Result (Unit {0}) FindError) × (bytes : List ℕ) × IsListing text options r bytes
    × (answer ≡ list_answer r bytes) × (new ≡ list_left r bytes old)

-- a listing by the key of a number
abbrev pub AnswersFind : List ℕ → Result (Option ImportKey) Answer → Bool → Answer → List ℕ → List ℕ → Type 0
AnswersFind text (Ok unique) top_only answer old new = AnswersList text (record { unique = unique; top_only = top_only }) answer old new
AnswersFind text (Err refused) top_only answer old new = (answer ≡ refused) × (new ≡ old)
