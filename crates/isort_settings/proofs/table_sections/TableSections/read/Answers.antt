-- The own names are those that were read.
use Rattle.std.proofs.Common.{◌≡◌, [], map, option_map, ok_or, string_bytes, sym, ◌∙◌, ap}
use Rattle.std.specs.Result.{result_unwrap_or}
use Rattle.toml.specs.View.{table_view}
use Rattle.isort_settings.specs.declared.error.SettingsError.TheVariants.{BadValue}
use Rattle.isort_settings.specs.declared.key.SettingKey.TheVariants.{Sections}
use Rattle.isort_settings.specs.SectionNames.{five_alone}
use Rattle.isort_settings.specs.TableSections.{own_names_in, own_list}
use Rattle.isort_settings.specs.TableSections.Steps.{listed_value}
use Rattle.isort_settings.proofs.table_sections.TableSections.read.Goals as goal

pub returns-clause-own_lists : goal.returns-clause-own_lists
returns-clause-own_lists c =
    let ms = table_view c.args.table.now in
    let names : map string_bytes c.in-Some.listed.own_names.items ≡ own_names_in ms =
    ap (λ r. (result_unwrap_or r five_alone).own_names) (ap (λ o. ok_or (option_map listed_value o) (BadValue Sections)) (sym c.in-Some.is) ∙ c.in_ok-listed.ensures.sections) in
    c.in_ok-indexed.ensures ∙ c.in_ok-lists.ensures.lists
    ∙ ap (map (λ name. result_unwrap_or (own_list ms name) [])) (ap (map string_bytes) c.as_slice.ensures.value ∙ names)
