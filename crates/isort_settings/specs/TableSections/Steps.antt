-- Words for the code alone, which no public clause names: the sections that were read, and keys with a bad value.
use Rattle.std.specs.Prelude.{ℕ, List, filter_map, map, string_bytes, Option, Some, None}
use Rattle.toml.specs.Data.{Members}
use Rattle.isort_settings.specs.declared.error.SettingsError.TheVariants.{BadValue}
use Rattle.isort_settings.specs.declared.key.SettingKey.{SettingKey}
use Rattle.isort_settings.specs.declared.key.SettingKey.TheVariants as key
use Rattle.isort_settings.specs.declared.table_sections.Listed.{Listed}
use Rattle.isort_settings.specs.FiveSections.{order_of}
use Rattle.isort_settings.specs.SectionNames.{SectionTable, list_key}
use Rattle.isort_settings.specs.TableSections.{Refused, refused_by, own_list, earlier}

-- the sections that were read
abbrev pub listed_value : Listed → SectionTable
listed_value l = record { order = order_of l.order; own_names = map string_bytes l.own_names.items }

-- a key whose value is bad
abbrev pub bad_key : SettingKey → Refused
bad_key k = record { what = k; why = BadValue k }

-- the refused keys among the lists of some own sections
abbrev pub lists_refused : Members → List (List ℕ) → List Refused
lists_refused ms names = filter_map (λ name. refused_by (key.OwnList (list_key name)) (own_list ms name)) names

-- of two refused keys, if they are there, the one whose name comes first by its bytes
abbrev pub earliest : Option Refused → Option Refused → Option Refused
earliest first None = first
earliest None (Some s) = Some s
earliest (Some r) (Some s) = Some (earlier r s)
