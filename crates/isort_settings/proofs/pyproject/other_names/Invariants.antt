-- The unknown names are those so far and those of the rest.
use Rattle.std.proofs.Common.{◌≡◌, ◌++◌, map, filter, not, string_bytes}
use Rattle.toml.specs.View.{table_view}
use Rattle.isort_settings.specs.Pyproject.{is_key, names_of}
use Rattle.isort_settings.proofs.pyproject.other_names.Given as goal

abbrev pub invariant-loop-name : goal.invariant-loop-name
invariant-loop-name l =
    filter (λ name. not (is_key l.own_keys name)) (names_of (table_view l.table))
    ≡ map string_bytes l.unknown.items ++ filter (λ name. not (is_key l.own_keys name)) (map string_bytes l.name-iterator)
