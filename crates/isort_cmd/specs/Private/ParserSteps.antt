-- What the steps of reading a command line promise one another. Only private contracts name these.
use Rattle.std.specs.Prelude.{◌≡◌, ◌≢◌, ⊤, pos, true, ℕ, Option, Some, None, List, [], ◌∷◌}
use Rattle.clap.specs.Words.{App, Row, Rule, Text, fault_of, found_of, matches_of, new_rule, rows_of, with_rule}
use Rattle.clap.specs.declared.builder.action.ArgAction.TheVariants.{SetTrue}
use Rattle.clap.specs.declared.builder.value_parser.ValueParser.TheVariants as parser
use Rattle.clap.specs.declared.error.kind.ErrorKind.{ErrorKind}
use Rattle.clap.specs.declared.error.kind.ErrorKind.TheVariants.{DisplayHelp, OutOfMemory}
use Rattle.clap.specs.declared.parser.matches.ArgMatches.{ArgMatches}
use Rattle.isort_cmd.specs.declared.arguments.CommandOption.{CommandOption}
use Rattle.isort_cmd.specs.declared.arguments.OptionValue.{OptionValue}
use Rattle.isort_cmd.specs.declared.arguments.OptionValue.TheVariants as value
use Rattle.isort_cmd.specs.declared.usage.UsageError.{UsageError}
use Rattle.isort_cmd.specs.declared.usage.UsageError.TheVariants as usage
use Rattle.isort_cmd.specs.Choice.{is_forbidden}
use Rattle.isort_cmd.specs.Options.{isort_app, with_letter}

-- what an option takes
abbrev pub with_value_of : OptionValue → Rule → Rule
with_value_of value.Flag r = record r { action = Some SetTrue }
with_value_of (value.Text name) r = record r { value_names = 1 }
with_value_of value.Number r = record r { value_names = 1; parser = Some (parser.Signed (pos 0) (pos 4294967295)) }

-- the letter of an option, if it has one
abbrev pub with_letter_of : Option ℕ → Rule → Rule
with_letter_of None r = r
with_letter_of (Some letter) r = with_letter letter r

-- an option as the parser takes it
abbrev pub rule_of_option : CommandOption → Rule
rule_of_option o = with_letter_of o.letter (with_value_of o.value (record (new_rule o.name.now) { long = Some o.name.now }))

-- a command line with these options too
abbrev pub with_rules_of : List CommandOption → App → App
with_rules_of [] app = app
with_rules_of (o ∷ options) app = with_rules_of options (with_rule app (rule_of_option o))

-- what the parser found, row by row
abbrev pub rows_in : ArgMatches → List Row
rows_in m = rows_of (found_of m)

-- what the parser finds in words that it reads
abbrev pub IsParse : List Text → ArgMatches → Type 0
IsParse words m = (fault_of isort_app words ≡ []) × (rows_in m ≡ matches_of isort_app words)

-- what an error of the parser, of this kind, is told as
abbrev pub IsToldAs : ErrorKind → UsageError → Type 0
IsToldAs kind (usage.Help text) = kind ≡ DisplayHelp
IsToldAs kind (usage.Refused text) = (kind ≢ DisplayHelp) × (kind ≢ OutOfMemory)
IsToldAs kind usage.Together = ⊥
IsToldAs kind usage.Memory = ⊤

-- why rows give no job
abbrev pub IsNoJob : List Row → UsageError → Type 0
IsNoJob rows usage.Together = is_forbidden rows ≡ true
IsNoJob rows usage.Memory = ⊤
IsNoJob rows _ = ⊥
