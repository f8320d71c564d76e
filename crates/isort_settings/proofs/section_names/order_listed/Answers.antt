-- The section of a name more.
use Rattle.std.proofs.Common.{Some, None, map, string_bytes, sym, ◌∙◌}
use Rattle.isort_settings.specs.SectionNames.{section_named}
use Rattle.isort_settings.proofs.Names.{sections_more}
use Rattle.isort_settings.proofs.section_names.order_listed.Goals as goal
use Rattle.isort_settings.proofs.section_names.order_listed.Goals.{in-Some+in_ok-push, in_default}

pub loop-name-preserved : goal.loop-name-preserved
loop-name-preserved c =
    elim c.match-section_named.branch [
      | in-Some+in_ok-push w ↦
          rw w.order-is (w.in_ok-push.ensures.items
          ∙ sections_more (section_named (map string_bytes c.args.own.now)) c.args.names.now c.loop-name.name-index c.name-item.result c.as_str.result.now (Some w.in-Some.section) c.loop-name.order.items
          c.loop-name-test.true c.name-item.is c.as_str.ensures.value (sym w.in-Some.is ∙ c.section_named.ensures) c.loop-name.invariant)
      | in_default w ↦
          rw w.order-is (sections_more (section_named (map string_bytes c.args.own.now)) c.args.names.now c.loop-name.name-index c.name-item.result c.as_str.result.now None c.loop-name.order.items
          c.loop-name-test.true c.name-item.is c.as_str.ensures.value (sym w.in_default.is ∙ c.section_named.ensures) c.loop-name.invariant)
    ]
