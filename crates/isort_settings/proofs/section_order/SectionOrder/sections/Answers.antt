-- A listed order has its sections as they are.
use Rattle.std.proofs.Common.{sym, ◌∙◌, ap}
use Rattle.isort_settings.specs.FiveSections.{order_of}
use Rattle.isort_settings.proofs.section_order.SectionOrder.sections.Goals as goal

pub returns-in-Usual : goal.returns-in-Usual
returns-in-Usual c = c.usual_order.ensures ∙ ap order_of (sym c.in-Usual.is)

pub returns-in-Listed : goal.returns-in-Listed
returns-in-Listed c = c.as_slice.ensures.value ∙ ap order_of (sym c.in-Listed.is)
