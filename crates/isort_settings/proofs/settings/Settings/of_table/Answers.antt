-- The sections and lists of the table are as settings keep them.
use Rattle.std.proofs.Common.{◌∙◌, sym}
use Rattle.toml.specs.View.{table_view}
use Rattle.isort_settings.specs.TableSections.{own_names_in}
use Rattle.isort_settings.specs.Values.{plain_values}
use Rattle.isort_settings.proofs.Documents.{listed_read, of_table-profile}
use Rattle.isort_settings.proofs.EntriesAlone.{HoldEntries-own}
use Rattle.isort_settings.proofs.OwnListsRead.{list_for_each}
use Rattle.isort_settings.proofs.SectionOrders.{StandOnce-read}
use Rattle.isort_settings.proofs.settings.Settings.of_table.Goals as goal

pub with_sections-settings-requires : goal.with_sections-settings-requires
with_sections-settings-requires c =
    let ms = table_view c.args.table.now in
    let listed = c.in_ok-listed.field-0.listed in
    let lists = c.in_ok-listed.field-0.own_lists in
    let read = c.in_ok-listed.ensures in
    record {
      few = read.few;
      list_for_each = list_for_each listed ms lists read.listed read.own_lists;
      each_once = StandOnce-read listed ms read.listed;
      entries = rw read.own_lists (HoldEntries-own ms (own_names_in ms));
    }

pub take_table-requires : goal.take_table-requires
take_table-requires c =
    let read = c.in_ok-listed.ensures in
    record {
      plain = c.with_sections-settings.ensures ∙ listed_read (table_view c.args.table.now) plain_values _ _ read.listed read.own_lists;
      refused = read.refused;
    }

pub returns-clause-ok : goal.returns-clause-ok
returns-clause-ok c = of_table-profile (table_view c.args.table.now) c.args.profile _ (sym c.in_ok-profile.ensures) ∙ c.in_ok-unknown.ensures.ok
