-- Settings that are kept between calls.
use Rattle.std.specs.Prelude.{◌≡◌, ◌⊎◌, ℕ, List, map, Option, None, Some, Result, Ok, Err, string_bytes}
use Rattle.std.specs.Arc.{arc_value}
use Rattle.isort_settings.specs.Values.{Values, values}
use Rattle.isort_c.specs.Answers.{plain_answer, IsUnlessMemory}
use Rattle.isort_c.specs.Readings.{TellsNames}
use Rattle.isort_c.specs.declared.answer.Answer.{Answer}
use Rattle.isort_c.specs.declared.answer.TheConstants.{SAME, MEMORY, ARGUMENT}
use Rattle.isort_c.specs.declared.handle.KeptSettings.{KeptSettings}
use Rattle.isort_c.specs.declared.stored.Stored.{Stored}
use Rattle.isort_c.specs.declared.stored.Reading.{Reading}

-- settings and the names of their unknown keys, or the answer where there are none: what `reading` gives
abbrev pub Answered : Type 0
Answered = Result (Values × List (List ℕ)) Answer

-- what was read: the settings, and the names of the unknown keys
abbrev pub read_values : Reading → Values × List (List ℕ)
read_values r = (values r.settings, map string_bytes r.unknown.items)

-- what a handle stands for, or the answer where it keeps nothing
abbrev pub stored_reading : Option Stored → Answered
stored_reading (Some s) = Ok (read_values (arc_value s.reading))
stored_reading None = Err (plain_answer ARGUMENT)

abbrev pub kept_reading : KeptSettings → Answered
kept_reading kept = stored_reading kept.held.value

-- settings were read, and are kept now; or why they weren't, and what was kept before is kept
abbrev pub KeepsReading : Answered → Answer → Answered → Answered → Type 0
KeepsReading (Ok r) answer old new =
    ((answer ≡ plain_answer SAME) × (new ≡ Ok r)) ⊎ ((answer ≡ plain_answer MEMORY) × (new ≡ old))
KeepsReading (Err refused) answer old new = IsUnlessMemory refused answer × (new ≡ old)

-- the names of the unknown keys that were read, or that memory ran out
abbrev pub TellsUnknown : Answered → Answer → List ℕ → List ℕ → Type 0
TellsUnknown (Ok (v, unknown)) answer old new =
    TellsNames unknown answer old new ⊎ ((answer ≡ plain_answer MEMORY) × (new ≡ old))
TellsUnknown (Err refused) answer old new = (answer ≡ refused) × (new ≡ old)
