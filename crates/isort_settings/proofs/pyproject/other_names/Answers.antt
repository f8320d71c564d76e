-- At the start all names are left, and the unknown ones of a table in order ascend.
use Rattle.std.proofs.Common.{◌≡◌, ℕ, List, map, filter, not, string_bytes, rules}
use Rattle.toml.specs.View.{table_view}
use Rattle.isort_settings.specs.Pyproject.{is_key, names_of}
use Rattle.isort_settings.proofs.Table.{names_of-view, Ascends-names_of}
use Rattle.isort_settings.proofs.pyproject.other_names.Goals as goal

pub loop-name-init : goal.loop-name-init
loop-name-init c =
    rw (c.into_iter-name-iterator.ensures.into_iter_gives, c.keys-name-items.ensures.rest, c.new-unknown.ensures.items, names_of-view c.args.table.now.entries)

pub returns-clause-ascend : goal.returns-clause-ascend
returns-clause-ascend c =
    let own : List (List ℕ) = c.args.own_keys.now in
    let names : map string_bytes c.loop-name.unknown.items ≡ filter (λ name. not (is_key own name)) (names_of (table_view c.args.table.now)) = search rules in
    rw names (Ascends-names_of (λ name. not (is_key own name)) c.args.table.now.entries c.keys-name-items.ensures.ordered)
