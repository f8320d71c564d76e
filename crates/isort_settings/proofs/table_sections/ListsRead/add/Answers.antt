-- What was found under the key is the list, or its refusal.
use Rattle.std.proofs.Common.{◌∙◌, Some, None, ap, map, option_map, refl, string_bytes}
use Rattle.toml.specs.View.{table_view}
use Rattle.isort_settings.specs.TableSections.Steps.{bad_key}
use Rattle.isort_settings.proofs.OwnListsRead.{list_added, refusal_added}
use Rattle.isort_settings.proofs.table_sections.ListsRead.add.Goals as goal

pub returns-in_ok-push-in-Some-clause-list : goal.returns-in_ok-push-in-Some-clause-list
returns-in_ok-push-in-Some-clause-list c =
    list_added (table_view c.args.table.now) c.args.name.now _ (Some (map string_bytes c.in-Some.list.items)) _ _ c.in-Some.list (c.as_str.ensures ∙ c.in_ok-key.ensures)
    (rw c.in-Some.is at c.in_ok-list.ensures) refl c.in_ok-push-in-Some.ensures.items

pub returns-in_ok-push-in-Some-clause-refused : goal.returns-in_ok-push-in-Some-clause-refused
returns-in_ok-push-in-Some-clause-refused c =
    refusal_added (table_view c.args.table.now) c.args.name.now _ (Some (map string_bytes c.in-Some.list.items)) (option_map bad_key c.args.self.now.refused) (c.as_str.ensures ∙ c.in_ok-key.ensures)
    (rw c.in-Some.is at c.in_ok-list.ensures)

pub returns-in_ok-push-in-None-clause-list : goal.returns-in_ok-push-in-None-clause-list
returns-in_ok-push-in-None-clause-list c =
    list_added (table_view c.args.table.now) c.args.name.now _ None _ _ c.new.result (c.as_str.ensures ∙ c.in_ok-key.ensures)
    (rw c.in-None.is at c.in_ok-list.ensures) (ap (map string_bytes) c.new.ensures.items) c.in_ok-push-in-None.ensures.items
