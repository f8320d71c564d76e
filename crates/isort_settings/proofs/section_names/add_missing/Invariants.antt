-- The missing ones so far.
use Rattle.std.proofs.Common.{◌≡◌, ◌++◌, not, map, take, bytes_eq, string_bytes}
use Rattle.std.specs.List.{filter, list_any}
use Rattle.isort_settings.specs.FiveSections.{section_spelling}
use Rattle.isort_settings.proofs.section_names.add_missing.Given as goal

abbrev pub invariant-loop-section : goal.invariant-loop-section
invariant-loop-section l =
    l.order.items ≡ l.initial.order.items ++ filter (λ s. not (list_any (λ name. bytes_eq name (section_spelling s)) (map string_bytes l.names))) (take l.section-index l.section-items)
