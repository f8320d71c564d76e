-- The place is the first at which the section stands.
use Rattle.std.proofs.Common.{ap, rules, tests, ◌∙◌, length, unwrap_or}
use Rattle.std.proofs.lemmas.Iterator.{YieldsList-from_slice}
use Rattle.std.proofs.lemmas.Iterator.Search.{position_from_yields_List}
use Rattle.std.specs.List.{position_or_len}
use Rattle.isort_settings.specs.FiveSections.{same_section}
use Rattle.isort_settings.proofs.Places.{place_or_len}
use Rattle.isort_settings.proofs.section_order.SectionOrder.rank.Goals as goal

pub returns : goal.returns
returns c =
    let sections = c.sections-sections.result.now in
    c.unwrap_or.ensures
    ∙ ap (λ o. unwrap_or o (length sections)) (position_from_yields_List (λ s. same_section s c.args.section) _ _ _ c.position.ensures.ran (YieldsList-from_slice sections c.iter.ensures.rest) (λ x b q k. search (rules, tests)))
    ∙ place_or_len (λ s. same_section s c.args.section) sections
    ∙ ap (position_or_len (λ s. same_section s c.args.section)) c.sections-sections.ensures
