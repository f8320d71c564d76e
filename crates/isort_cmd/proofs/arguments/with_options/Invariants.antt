-- With the options that are left, the parser is the one with all of them.
use Rattle.std.proofs.Common.{◌≡◌, drop}
use Rattle.clap.specs.Words.{app_of}
use Rattle.isort_cmd.specs.Private.ParserSteps.{with_rules_of}
use Rattle.isort_cmd.proofs.arguments.with_options.Given as goal

abbrev pub invariant-loop-option : goal.invariant-loop-option
invariant-loop-option l = with_rules_of (drop l.option-index l.options) (app_of l.command) ≡ with_rules_of l.options (app_of l.initial.command)
