-- Each option adds its rule to the parser.
use Rattle.std.proofs.Common.{◌∙◌, ◌+◌, ap, sym, drop}
use Rattle.std.proofs.lemmas.List.{at_drop_all, at_drop_more}
use Rattle.clap.specs.Simple.{app_of_fields}
use Rattle.clap.specs.Words.{app_of}
use Rattle.isort_cmd.specs.Private.ParserSteps.{with_rules_of}
use Rattle.isort_cmd.proofs.OptionLemmas.{added}
use Rattle.isort_cmd.proofs.arguments.with_options.Goals as goal

pub loop-option-preserved : goal.loop-option-preserved
loop-option-preserved c =
    let options = c.args.options.now in
    let headed = ap app_of_fields c.next_help_heading.ensures in
    let more = added c.in_ok-command.ensures c.argument.ensures.local headed c.argument.ensures.rule in
    ap (with_rules_of (drop (c.loop-option.option-index + 1) options)) more
    ∙ sym (at_drop_more (λ os. with_rules_of os (app_of c.loop-option.command)) options c.loop-option.option-index _ c.loop-option-test.true)
    ∙ c.loop-option.invariant

pub returns : goal.returns
returns c =
    sym (at_drop_all (λ os. with_rules_of os (app_of c.loop-option.command)) c.args.options.now c.loop-option.option-index c.loop-option-test.false)
    ∙ c.loop-option.invariant
