-- Words for the code alone, which no public clause names: the settings of a document step by step.
use Rattle.std.specs.Prelude.{◌≡◌, ℕ, true, List, Option, Some, None, Result}
use Rattle.toml.specs.Data.{Members}
use Rattle.isort_settings.specs.declared.error.SettingsError.{SettingsError}
use Rattle.isort_settings.specs.declared.profile.Profile.{Profile}
use Rattle.isort_settings.specs.declared.profile.Profile.TheVariants.{Black}
use Rattle.isort_settings.specs.Pyproject.{and_then, base_value, profile_of, settings_in, table_in, values_in, with_sections}
use Rattle.isort_settings.specs.SectionNames.{SectionTable}
use Rattle.isort_settings.specs.Values.{Values, values_from}

-- where a profile's values with the table's sections were filled in, they are the values of the table under that profile
abbrev pub FillsFrom : Members → Values → Values → Type 0
FillsFrom ms old new =
    (profile : Option Profile) → old ≡ with_sections ms (values_from (base_value profile)) → new ≡ values_in ms profile

-- the values with these sections, and with these lists of the own ones
abbrev pub with_listed : SectionTable → List (List (List ℕ)) → Values → Values
with_listed table lists v = record v { sections = table.order; own_names = table.own_names; own_lists = lists }

-- the values with what a profile says
abbrev pub with_profile : Option Profile → Values → Values
with_profile None v = v
with_profile (Some Black) v =
    record v { line_length = 88; multi_line_output = 3; include_trailing_comma = true; use_parentheses = true; ensure_newline_before_comments = true }

-- the settings that a table stands for with a profile handed in, and those of the table of a document
abbrev pub of_table : Option Profile → Members → Result (Values × List (List ℕ)) SettingsError
of_table handed_in ms = and_then (profile_of handed_in ms) (λ profile. settings_in ms profile)

abbrev pub of_document : Option Profile → Members → Result (Values × List (List ℕ)) SettingsError
of_document handed_in document = and_then (table_in document) (of_table handed_in)
