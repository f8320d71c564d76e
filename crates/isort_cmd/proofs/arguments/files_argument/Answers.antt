use Rattle.std.proofs.Common.{◌∙◌, ap, ap₂, Option, true}
use Rattle.clap.specs.Words.{Rule, rule_of}
use Rattle.clap.specs.declared.builder.arg.Arg.{Arg}
use Rattle.clap.specs.declared.builder.range.ValueRange.{ValueRange}
use Rattle.isort_cmd.proofs.MatchLemmas.{is_that_value}
use Rattle.isort_cmd.proofs.arguments.files_argument.Goals as goal

pub returns-clause-rule : goal.returns-clause-rule
returns-clause-rule c =
    ap rule_of c.help.ensures ∙ ap rule_of c.num_args.ensures.0
    ∙ ap₂ (λ (r : Rule) (range : Option ValueRange). record r { range = range }) (ap rule_of c.required.ensures ∙ ap (λ (r : Rule). record r { required = true }) c.new.ensures.rule) (is_that_value _ _ c.num_args.ensures.1)

pub returns-clause-local : goal.returns-clause-local
returns-clause-local c =
    ap (λ (a : Arg). a.global) c.help.ensures ∙ ap (λ (a : Arg). a.global) c.num_args.ensures.0 ∙ ap (λ (a : Arg). a.global) c.required.ensures ∙ c.new.ensures.optional.1
