-- The sections of the names so far.
use Rattle.std.proofs.Common.{◌≡◌, map, take, string_bytes}
use Rattle.std.specs.List.{filter_map}
use Rattle.isort_settings.specs.SectionNames.{section_named}
use Rattle.isort_settings.proofs.section_names.order_listed.Given as goal

abbrev pub invariant-loop-name : goal.invariant-loop-name
invariant-loop-name l =
    l.order.items ≡ filter_map (section_named (map string_bytes l.own)) (map string_bytes (take l.name-index l.names))
