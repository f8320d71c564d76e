-- The values are those of the table.
use Rattle.std.proofs.Common.{◌∙◌, ap, filter, map, not, string_bytes}
use Rattle.toml.specs.View.{table_view}
use Rattle.isort_settings.specs.Pyproject.{is_key, names_of}
use Rattle.isort_settings.specs.Pyproject.Steps.{with_profile}
use Rattle.isort_settings.specs.SectionNames.{list_key}
use Rattle.isort_settings.proofs.Documents.{settings_in-values, with_profile-plain}
use Rattle.isort_settings.proofs.settings.Settings.take_table.Goals as goal

pub returns-clause-ok : goal.returns-clause-ok
returns-clause-ok c =
    let ms = table_view c.args.table.now in
    settings_in-values ms c.args.profile _ _ c.in_ok-take_values.ensures.unrefused
    (c.in_ok-take_values.ensures.filled c.args.profile (c.take_profile.ensures ∙ ap (with_profile c.args.profile) c.requires.plain ∙ with_profile-plain ms c.args.profile))
    (c.in_ok-unknown_keys.ensures.names ∙ ap (λ items. filter (λ name. not (is_key (map list_key (map string_bytes items)) name)) (names_of ms)) c.as_slice.ensures.value)
