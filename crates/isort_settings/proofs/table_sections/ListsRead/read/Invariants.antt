-- The lists so far, and the first key refused among them.
use Rattle.std.proofs.Common.{◌≡◌, [], map, take, option_map, string_bytes}
use Rattle.std.specs.Result.{result_unwrap_or}
use Rattle.toml.specs.View.{table_view}
use Rattle.isort_settings.specs.OwnLists.{modules_of_lists}
use Rattle.isort_settings.specs.TableSections.{own_list, first_refused}
use Rattle.isort_settings.specs.TableSections.Steps.{lists_refused, bad_key}
use Rattle.isort_settings.proofs.table_sections.ListsRead.read.Given as goal

abbrev pub invariant-loop-name : goal.invariant-loop-name
invariant-loop-name l = record {
  lists : modules_of_lists l.read.lists.items ≡ map (λ name. result_unwrap_or (own_list (table_view l.table) name) []) (map string_bytes (take l.name-index l.names));
  refused : option_map bad_key l.read.refused ≡ first_refused (lists_refused (table_view l.table) (map string_bytes (take l.name-index l.names)));
}
