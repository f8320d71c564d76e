-- The test passes where another name is the same when the case is ignored.
use Rattle.std.proofs.Common.{not, string_bytes, rules, tests, ◌∙◌, ap}
use Rattle.std.proofs.lemmas.Iterator.{YieldsList-from_slice}
use Rattle.std.proofs.lemmas.Iterator.Search.{any_from_yields_List}
use Rattle.std.specs.Str.{str_eq_ignore_ascii_case}
use Rattle.isort_settings.proofs.Names.{any-map}
use Rattle.isort_settings.proofs.section_names.is_apart.Goals as goal

pub returns : goal.returns
returns c =
    ap not (any_from_yields_List (λ e. str_eq_ignore_ascii_case (string_bytes e) c.args.name.now) _ _ _ c.any.ensures.ran (YieldsList-from_slice c.args.others.now c.iter.ensures.rest) (λ x b q k. search (rules, tests))
    ∙ any-map (λ other. str_eq_ignore_ascii_case other c.args.name.now) c.args.others.now)
