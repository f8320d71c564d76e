-- The key of a name more.
use Rattle.std.proofs.Common.{map, string_bytes, ap, ◌∙◌}
use Rattle.std.proofs.lemmas.List.{take_all}
use Rattle.isort_settings.specs.SectionNames.{list_key}
use Rattle.isort_settings.proofs.Names.{mapped_more}
use Rattle.isort_settings.proofs.pyproject.own_keys.Goals as goal

pub loop-name-preserved : goal.loop-name-preserved
loop-name-preserved c =
    mapped_more list_key c.args.own_names.now c.loop-name.name-index c.name-item.result c.as_str.result.now c.loop-name.keys.items c.push.new.self.items c.in_ok-of_section.field-0
    c.loop-name-test.true c.name-item.is c.as_str.ensures.value c.in_ok-of_section.ensures c.loop-name.invariant c.in_ok-push.ensures.items

pub returns : goal.returns
returns c =
    c.loop-name.invariant ∙ ap (λ names. map list_key (map string_bytes names)) (take_all c.loop-name.name-index c.args.own_names.now c.loop-name-test.false)
