-- What the text of a `pyproject.toml` stands for, or how it is answered.
use Rattle.std.specs.Prelude.{◌≡◌, ◌⊎◌, ℕ, ◌==◌, if◌then◌else◌, List, [], length, Option, None, Some, Result, Ok, Err}
use Rattle.std.specs.Result.{result_map_both}
use Rattle.isort_settings.specs.Keys.{name_of}
use Rattle.isort_settings.specs.Pyproject.{settings_of}
use Rattle.isort_settings.specs.Values.{Values}
use Rattle.isort_settings.specs.declared.error.SettingsError.{SettingsError}
use Rattle.isort_settings.specs.declared.error.SettingsError.TheVariants as refusal
use Rattle.isort_settings.specs.declared.profile.Profile.{Profile}
use Rattle.isort_settings.specs.declared.profile.Profile.TheVariants.{Black}
use Rattle.isort_c.specs.Answers.{plain_answer, filled}
use Rattle.isort_c.specs.KeyNumbers.{key_number}
use Rattle.isort_c.specs.Records.{name_records}
use Rattle.isort_c.specs.declared.answer.Answer.{Answer}
use Rattle.isort_c.specs.declared.answer.TheConstants.{SAME, SETTINGS, MEMORY, ARGUMENT}

-- the profile of a number: 0 is none, and 1 is `black`
abbrev pub profile_at : ℕ → Result (Option Profile) Answer
profile_at n = if n == 0 then Ok None else if n == 1 then Ok (Some Black) else Err (plain_answer ARGUMENT)

-- the answer at a refusal
abbrev pub refused_answer : SettingsError → Answer
refused_answer refusal.Memory = plain_answer MEMORY
refused_answer refusal.BadToml = record (plain_answer SETTINGS) { label = 1 }
refused_answer (refusal.BadValue k) = record (plain_answer SETTINGS) { label = 2; key = key_number k }
refused_answer refusal.UnknownProfile = record (plain_answer SETTINGS) { label = 3 }
refused_answer refusal.UnsupportedMode = record (plain_answer SETTINGS) { label = 4 }

-- what the text stands for with this profile
abbrev pub reading_with : List ℕ → Result (Option Profile) Answer → Result (Values × List (List ℕ)) Answer
reading_with text (Ok profile) = result_map_both (λ r. r) refused_answer (settings_of text profile)
reading_with text (Err answer) = Err answer

-- the settings that the text stands for with the profile of this number, and the names of its unknown keys; or the
-- answer where there are none
abbrev pub reading : List ℕ → ℕ → Result (Values × List (List ℕ)) Answer
reading text n = reading_with text (profile_at n)

-- the name of the key whose value is bad, if that is why settings are refused
abbrev pub bad_key_name : SettingsError → List ℕ
bad_key_name (refusal.BadValue k) = name_of k
bad_key_name other = []

-- the answer with the names of unknown keys, in the buffer
abbrev pub TellsNames : List (List ℕ) → Answer → List ℕ → List ℕ → Type 0
TellsNames names answer old new =
    (answer ≡ record (plain_answer SAME) { size = length (name_records names) }) × (new ≡ filled (name_records names) old)

-- so, or that memory ran out
abbrev pub TellsAllNames : List (List ℕ) → Answer → List ℕ → List ℕ → Type 0
TellsAllNames names answer old new = TellsNames names answer old new ⊎ ((answer ≡ plain_answer MEMORY) × (new ≡ old))

-- the names of the unknown keys in the buffer; or why settings are refused, and the name of the key whose value is bad
abbrev pub TellsOf : Result (Values × List (List ℕ)) SettingsError → Answer → List ℕ → List ℕ → Type 0
TellsOf (Ok (v, unknown)) answer old new = TellsNames unknown answer old new
TellsOf (Err e) answer old new =
    (answer ≡ record (refused_answer e) { size = length (bad_key_name e) }) × (new ≡ filled (bad_key_name e) old)

-- what the text of settings says with this profile, or that memory ran out
abbrev pub AnswersSettings : List ℕ → Result (Option Profile) Answer → Answer → List ℕ → List ℕ → Type 0
AnswersSettings text (Ok profile) answer old new =
    TellsOf (settings_of text profile) answer old new ⊎ ((answer ≡ plain_answer MEMORY) × (new ≡ old))
AnswersSettings text (Err refused) answer old new = (answer ≡ refused) × (new ≡ old)
