-- The name at a place is apart from those after it, or not.
use Rattle.std.proofs.Common.{ap, sym, ◌∙◌, map, string_bytes}
use Rattle.std.proofs.lemmas.List.{drop_all}
use Rattle.isort_settings.specs.SectionNames.{are_apart}
use Rattle.isort_settings.proofs.Names.{apart_more}
use Rattle.isort_settings.proofs.section_names.are_apart.Goals as goal

pub returns-then-not-is_apart : goal.returns-then-not-is_apart
returns-then-not-is_apart c =
    sym (c.loop-place.invariant
    ∙ apart_more c.args.names.now c.loop-place.place c.index-names-place.result c.as_str.result.now _ c.loop-place-test.true c.index-names-place.is c.as_str.ensures.value (sym c.if-not-is_apart.true ∙ c.is_apart.ensures))

pub loop-place-preserved : goal.loop-place-preserved
loop-place-preserved c =
    c.loop-place.invariant
    ∙ apart_more c.args.names.now c.loop-place.place c.index-names-place.result c.as_str.result.now _ c.loop-place-test.true c.index-names-place.is c.as_str.ensures.value (sym c.if-not-is_apart.false ∙ c.is_apart.ensures)

pub returns : goal.returns
returns c =
    sym (c.loop-place.invariant ∙ ap (λ names. are_apart (map string_bytes names)) (drop_all c.loop-place.place c.args.names.now c.loop-place-test.false))
