-- An own section's place, after the five.
use Rattle.std.proofs.Common.{◌+◌, sym, ◌∙◌, ap}
use Rattle.isort_settings.specs.FiveSections.{section_number}
use Rattle.isort_settings.proofs.section.Section.number.Goals as goal

pub returns-in-Own : goal.returns-in-Own
returns-in-Own c = ap (λ n. 5 + n) c.from.ensures ∙ ap section_number (sym c.in-Own.is)
