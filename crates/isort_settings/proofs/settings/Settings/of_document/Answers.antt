-- Where there is a table, its values count. Where there is none, all keys have the profile's values, and no name is unknown.
use Rattle.toml.specs.View.{table_view}
use Rattle.isort_settings.specs.Values.{values}
use Rattle.isort_settings.proofs.Table.{Ascends-none}
use Rattle.isort_settings.proofs.Documents.{of_document-table, of_document-no_table}
use Rattle.isort_settings.proofs.settings.Settings.of_document.Goals as goal

pub returns-in-Some : goal.returns-in-Some
returns-in-Some c =
    let same = of_document-table (table_view c.args.document.now) (table_view c.in-Some.table.now) c.args.profile (rw c.in-Some.is at c.in_ok-table.ensures.ok) in
    record { ok = rw same c.of_table.ensures.ok; unknown_ascend = c.of_table.ensures.unknown_ascend; refused = rw same c.of_table.ensures.refused }

pub returns-in-None-clause-ok : goal.returns-in-None-clause-ok
returns-in-None-clause-ok c =
    rw c.new.ensures.items
    (of_document-no_table (table_view c.args.document.now) c.args.profile (values c.of_profile.result) (rw c.in-None.is at c.in_ok-table.ensures.ok) c.of_profile.ensures)

pub returns-in-None-clause-unknown_ascend : goal.returns-in-None-clause-unknown_ascend
returns-in-None-clause-unknown_ascend c = rw c.new.ensures.items Ascends-none
