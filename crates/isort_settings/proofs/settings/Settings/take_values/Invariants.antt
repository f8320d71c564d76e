-- The keys from here on are left, and the key that is refused is the same.
use Rattle.std.proofs.Common.{◌≡◌}
use Rattle.std.specs.Array.Iter.{array_into_iter_items}
use Rattle.toml.specs.View.{table_view}
use Rattle.isort_settings.specs.Values.{values}
use Rattle.isort_settings.proofs.Table.{KeysLeft}
use Rattle.isort_settings.proofs.settings.Settings.take_values.Given as goal

abbrev pub invariant-loop-key : goal.invariant-loop-key
invariant-loop-key l =
    (goal.iterator-loop-key).can_next l.key-iterator
    × (goal.iterator-loop-key).is_finite l.key-iterator
    × KeysLeft (table_view l.table) (values l.initial.self) (array_into_iter_items l.key-iterator) (values l.self)
    × (l.refused ≡ l.initial.refused)
