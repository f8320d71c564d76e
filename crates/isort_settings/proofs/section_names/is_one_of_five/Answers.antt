-- The test passes where the spelling is the name when the case is ignored.
use Rattle.std.proofs.Common.{rules, tests, ◌∙◌, ap}
use Rattle.std.proofs.lemmas.Iterator.{YieldsList-from_slice}
use Rattle.std.proofs.lemmas.Iterator.Search.{any_from_yields_List}
use Rattle.std.specs.List.{list_any}
use Rattle.std.specs.Str.{str_eq_ignore_ascii_case}
use Rattle.isort_settings.specs.FiveSections.{section_spelling}
use Rattle.isort_settings.proofs.section_names.is_one_of_five.Goals as goal

pub returns : goal.returns
returns c =
    any_from_yields_List (λ s. str_eq_ignore_ascii_case (section_spelling s) c.args.name.now) _ _ _ c.any.ensures.ran (YieldsList-from_slice c.usual_order.result.now c.iter.ensures.rest) (λ x b q k. search (rules, tests))
    ∙ ap (list_any (λ s. str_eq_ignore_ascii_case (section_spelling s) c.args.name.now)) c.usual_order.ensures
