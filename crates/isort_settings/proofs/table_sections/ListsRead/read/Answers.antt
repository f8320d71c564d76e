-- One list more.
use Rattle.std.proofs.Common.{[], refl, ap, ◌∙◌, map, string_bytes}
use Rattle.std.proofs.lemmas.List.{take_all}
use Rattle.std.specs.Result.{result_unwrap_or}
use Rattle.toml.specs.View.{table_view}
use Rattle.isort_settings.specs.OwnLists.{modules_of_lists}
use Rattle.isort_settings.specs.TableSections.{own_list, first_refused}
use Rattle.isort_settings.specs.TableSections.Steps.{lists_refused}
use Rattle.isort_settings.proofs.Names.{mapped_more}
use Rattle.isort_settings.proofs.OwnListsRead.{refused_more}
use Rattle.isort_settings.proofs.table_sections.ListsRead.read.Goals as goal

pub loop-name-init : goal.loop-name-init
loop-name-init c = record { lists = ap (λ lists. modules_of_lists lists) c.new.ensures.items; refused = refl }

pub loop-name-preserved : goal.loop-name-preserved
loop-name-preserved c =
    let ms = table_view c.args.table.now in
    let within = c.loop-name-test.true in
    let same = c.as_str.ensures.value in
    record {
      lists = mapped_more (λ name. result_unwrap_or (own_list ms name) []) c.args.names.now c.loop-name.name-index c.name-item.result _ _ _ _ within c.name-item.is same refl c.loop-name.invariant.lists c.in_ok-add.ensures.list;
      refused = refused_more ms c.args.names.now c.loop-name.name-index c.name-item.result _ _ _ within c.name-item.is same c.in_ok-add.ensures.refused c.loop-name.invariant.refused;
    }

pub returns : goal.returns
returns c =
    let ms = table_view c.args.table.now in
    let all = take_all c.loop-name.name-index c.args.names.now c.loop-name-test.false in
    record {
      lists = c.loop-name.invariant.lists ∙ ap (λ names. map (λ name. result_unwrap_or (own_list ms name) []) (map string_bytes names)) all;
      refused = c.loop-name.invariant.refused ∙ ap (λ names. first_refused (lists_refused ms (map string_bytes names))) all;
    }
