-- The entries of the whole array are those so far and those of the rest.
use Rattle.std.proofs.Common.{◌≡◌, ◌++◌, drop, map, string_bytes, option_map}
use Rattle.toml.specs.View.{items_view}
use Rattle.isort_settings.specs.Reading.{entries_of}
use Rattle.isort_settings.proofs.value.texts.Given as goal

abbrev pub invariant-loop-item : goal.invariant-loop-item
invariant-loop-item l =
    entries_of (items_view l.item-items)
    ≡ option_map (λ more. map string_bytes l.list.items ++ more) (entries_of (items_view (drop l.item-index l.item-items)))
