-- The section of a module, as an answer.
use Rattle.std.specs.Prelude.{◌≡◌, ◌⊎◌, ℕ, List, length, Result, Ok, Err}
use Rattle.std.specs.Str.{IsUtf8}
use Rattle.isort_settings.specs.FiveSections.{section_number}
use Rattle.isort_settings.specs.Values.{Values}
use Rattle.isort_settings.specs.Sections.{section_in, section_name}
use Rattle.isort_settings.specs.declared.section.Section.{Section}
use Rattle.isort_c.specs.Answers.{plain_answer, IsUnlessMemory, filled}
use Rattle.isort_c.specs.declared.answer.Answer.{Answer}
use Rattle.isort_c.specs.declared.answer.TheConstants.{SAME, MEMORY, ARGUMENT}

-- the section, and its name in the buffer
abbrev pub TellsSection : Values → Section → Answer → List ℕ → List ℕ → Type 0
TellsSection v s answer old new =
    (answer ≡ record (plain_answer SAME) { section = section_number s; size = length (section_name v s) })
    × (new ≡ filled (section_name v s) old)

-- the section under what the settings stand for, or that memory ran out
abbrev pub PlacedBy : List ℕ → Result (Values × List (List ℕ)) Answer → Answer → List ℕ → List ℕ → Type 0
PlacedBy name (Ok (v, unknown)) answer old new =
    TellsSection v (section_in v name) answer old new ⊎ ((answer ≡ plain_answer MEMORY) × (new ≡ old))
PlacedBy name (Err refused) answer old new = IsUnlessMemory refused answer × (new ≡ old)

-- a module that is a text has its section, and every other means nothing
abbrev pub AnswersPlace : List ℕ → Result (Values × List (List ℕ)) Answer → Answer → List ℕ → List ℕ → Type 0
AnswersPlace name read answer old new =
    (IsUtf8 name × PlacedBy name read answer old new) ⊎ (¬ (IsUtf8 name) × (answer ≡ plain_answer ARGUMENT) × (new ≡ old))
