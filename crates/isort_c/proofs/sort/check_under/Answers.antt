use Rattle.std.proofs.Common.{Result, Ok, ap, ◌∙◌, subst}
use Rattle.isort_settings.specs.Values.{values}
use Rattle.isort_sort.specs.Answers.{TellsOutcome}
use Rattle.isort_sort.specs.declared.answer.Outcome.{Outcome}
use Rattle.isort_sort.specs.declared.answer.Outcome.TheVariants as outcome
use Rattle.isort_sort.specs.declared.answer.SortError.{SortError}
use Rattle.isort_c.proofs.sort.check_under.Goals as goal

pub returns-in-Ok-Changed : goal.returns-in-Ok-Changed
returns-in-Ok-Changed c =
    let is = c.in-Ok-Changed.is ∙ ap Ok c.in-Ok-Changed.field-0-is in
    (Ok outcome.Changed, subst (λ (r : Result Outcome SortError). TellsOutcome c.args.text.now (values c.args.settings.now) r) is c.sort_outcome.ensures, c.plain-in-Ok-Changed.ensures)
