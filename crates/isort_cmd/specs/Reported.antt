-- What a run over one file tells, and what refused settings tell.
use Rattle.std.specs.Prelude.{ℕ, List, [], ◌∷◌, ◌++◌, codes, string_bytes, Result, Ok, Err}
use Rattle.isort_settings.specs.Keys.{name_of}
use Rattle.isort_settings.specs.declared.error.SettingsError.{SettingsError}
use Rattle.isort_settings.specs.declared.error.SettingsError.TheVariants.{Memory, BadToml, BadValue, UnknownProfile, UnsupportedMode}
use Rattle.isort_sort.specs.declared.answer.Outcome.{Outcome}
use Rattle.isort_sort.specs.declared.answer.Outcome.TheVariants.{Changed}
use Rattle.isort_cmd.specs.FaultText.{error_line, memory_line}
use Rattle.isort_cmd.specs.declared.error.RunError.{RunError}
use Rattle.isort_cmd.specs.declared.job.Action.{Action}
use Rattle.isort_cmd.specs.declared.job.Task.{Task}
use Rattle.isort_cmd.specs.declared.job.Task.TheVariants.{Check, Rewrite}
use Rattle.isort_cmd.specs.declared.told.Report.{Report}
use Rattle.isort_cmd.specs.Task.{task_of}

-- the text for standard output, the text for standard error, and the status
pub record Reported : Type 0 where
  pub out : List ℕ
  pub err : List ℕ
  pub status : ℕ

-- what a report says
abbrev pub report_value : Report → Reported
report_value r = record { out = string_bytes r.out; err = string_bytes r.err; status = r.status }

-- nothing to tell
abbrev pub nothing : Reported
nothing = record { out = []; err = []; status = 0 }

-- a file that was rewritten
abbrev pub rewritten : List ℕ → Reported
rewritten path = record nothing { out = codes "Fixing " ++ (path ++ 10 ∷ []) }

-- a file that a check found unsorted
abbrev pub unsorted : List ℕ → Reported
unsorted path = record {
  out = [];
  err = codes "ERROR: " ++ (path ++ (codes " Imports are incorrectly sorted and/or formatted." ++ 10 ∷ []));
  status = 1;
}

-- what is told of the file at a path after a task
abbrev pub told_of : List ℕ → Task → Result Outcome RunError → Reported
told_of path task (Err e) = record { out = []; err = error_line path e; status = 1 }
told_of path Check (Ok Changed) = unsorted path
told_of path Rewrite (Ok Changed) = rewritten path
told_of path task (Ok outcome) = nothing

-- what is told of the file at a path after an action on it
abbrev pub reported : List ℕ → Action → Result Outcome RunError → Reported
reported path action answer = told_of path (task_of path action) answer

-- why settings are refused
abbrev pub settings_line : SettingsError → List ℕ
settings_line Memory = memory_line
settings_line BadToml = codes "isort: settings: S1 not TOML" ++ 10 ∷ []
settings_line (BadValue key) = codes "isort: settings: S2 bad value for " ++ (name_of key ++ 10 ∷ [])
settings_line UnknownProfile = codes "isort: settings: S3 unknown profile" ++ 10 ∷ []
settings_line UnsupportedMode = codes "isort: settings: S4 unsupported multi_line_output" ++ 10 ∷ []
