-- What a command line is read as.
use Rattle.std.specs.Prelude.{◌≡◌, ◌≢◌, ⊤, true, List, []}
use Rattle.clap.specs.Words.{Text, IsAmong, fault_of, matches_of}
use Rattle.clap.specs.declared.error.kind.ErrorKind.{ErrorKind}
use Rattle.clap.specs.declared.error.kind.ErrorKind.TheVariants.{DisplayHelp}
use Rattle.isort_cmd.specs.declared.job.Job.{Job}
use Rattle.isort_cmd.specs.declared.usage.UsageError.{UsageError}
use Rattle.isort_cmd.specs.declared.usage.UsageError.TheVariants as usage
use Rattle.isort_cmd.specs.Choice.{IsJob, is_forbidden}
use Rattle.isort_cmd.specs.Options.{isort_app}

-- the parser reads the words, and what it finds asks for this job
abbrev pub IsReadAsJob : List Text → Job → Type 0
IsReadAsJob words job = (fault_of isort_app words ≡ []) × IsJob (matches_of isort_app words) job

-- Why words give no job: they ask for help, the parser refuses them, it reads them and their options don't go together,
-- or memory ran out.
abbrev pub IsUsageError : List Text → UsageError → Type 0
IsUsageError words (usage.Help text) = IsAmong DisplayHelp (fault_of isort_app words)
IsUsageError words (usage.Refused text) = (kind : ErrorKind) × IsAmong kind (fault_of isort_app words) × (kind ≢ DisplayHelp)
IsUsageError words usage.Together = (fault_of isort_app words ≡ []) × (is_forbidden (matches_of isort_app words) ≡ true)
IsUsageError words usage.Memory = ⊤

-- the errors that tell of the parser: help, or a refusal
abbrev pub IsOfParser : UsageError → Type 0
IsOfParser (usage.Help text) = ⊤
IsOfParser (usage.Refused text) = ⊤
IsOfParser _ = ⊥
