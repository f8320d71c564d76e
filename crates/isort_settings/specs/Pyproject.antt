-- The settings that the text of a `pyproject.toml` stands for, with a profile handed in, or its first refusal.
pub mod Steps
use Rattle.std.specs.Prelude.{codes, ℕ, Bool, not, ◌||◌, if◌then◌else◌, List, [], ◌∷◌, ◌++◌, map, filter, filter_map, Option, Some, None, option_map, unwrap_or, ok_or, Result, Ok, Err, bytes_eq}
use Rattle.std.specs.List.{list_any}
use Rattle.std.specs.Option.{option_map_or}
use Rattle.std.specs.Result.{result_unwrap_or, result_map_both}
use Rattle.std.specs.Str.{is_utf8}
use Rattle.toml.specs.Data.{Data, string, Members, no_members, member, get_member, as_table}
use Rattle.toml.specs.Parse.{parse_document}
use Rattle.isort_settings.specs.declared.error.SettingsError.{SettingsError}
use Rattle.isort_settings.specs.declared.error.SettingsError.TheVariants.{BadToml, BadValue}
use Rattle.isort_settings.specs.declared.key.SettingKey.{SettingKey}
use Rattle.isort_settings.specs.declared.key.SettingKey.TheVariants as key
use Rattle.isort_settings.specs.declared.profile.Profile.{Profile}
use Rattle.isort_settings.specs.declared.profile.Profile.TheVariants.{Black}
use Rattle.isort_settings.specs.Keys.{Meaning, row_of, name_of, keys_in_order, is_known}
use Rattle.isort_settings.specs.Reading.{profile_named, read_value}
use Rattle.isort_settings.specs.SectionNames.{list_key}
use Rattle.isort_settings.specs.TableSections.{sections_in, own_names_in, own_list, Refused, refused_by, first_refused, sections_refused}
use Rattle.isort_settings.specs.Values.{Values, values_from}

-- what follows from an answer that is no refusal
abbrev pub and_then : {A B : Type 0} → Result A SettingsError → (A → Result B SettingsError) → Result B SettingsError
and_then (Ok a) f = f a
and_then (Err e) f = Err e

-- the document that the bytes are: TOML is UTF-8
abbrev pub document_of : List ℕ → Result Members SettingsError
document_of text = ok_or (if is_utf8 text then parse_document text else None) BadToml

-- the table under a name, if the name is there; what is there and no table is refused by the key
abbrev pub table_value : SettingKey → Option Data → Result (Option Members) SettingsError
table_value k None = Ok None
table_value k (Some d) = option_map_or (λ ms. Ok (Some ms)) (as_table d) (Err (BadValue k))

-- the same with an absent table read as an empty one
abbrev pub table_under : SettingKey → List ℕ → Members → Result Members SettingsError
table_under k name ms = result_map_both (λ t. unwrap_or t no_members) (λ e. e) (table_value k (get_member name ms))

-- the table `isort` in the table `tool` of a document
abbrev pub table_in : Members → Result Members SettingsError
table_in document =
    and_then (table_under key.Tool (codes "tool") document) (λ tool.
    table_under key.ToolIsort (codes "isort") tool)

-- the profile that the table names
abbrev pub profile_value : Option Data → Result (Option Profile) SettingsError
profile_value None = Ok None
profile_value (Some (string name)) = result_map_both (λ p. Some p) (λ e. e) (profile_named name)
profile_value (Some _) = Err (BadValue key.Profile)

-- the profile that counts: one that is handed in replaces the table's, which isn't read then
abbrev pub profile_of : Option Profile → Members → Result (Option Profile) SettingsError
profile_of (Some p) ms = Ok (Some p)
profile_of None ms = profile_value (get_member (name_of key.Profile) ms)

-- whether the table's value of a key is refused
abbrev pub refused_at : Members → SettingKey → Option Refused
refused_at ms k = option_map_or (λ d. refused_by k (read_value (own_names_in ms) (row_of k).kind k d)) (get_member (name_of k) ms) None

-- all keys that are refused: those that are read one by one, `sections`, and the lists of own sections
abbrev pub all_refused : Members → List Refused
all_refused ms = filter_map (refused_at ms) keys_in_order ++ sections_refused ms

-- the first refusal by the byte order of the keys
abbrev pub first_refusal : Members → Option SettingsError
first_refusal ms = option_map (λ r. r.why) (first_refused (all_refused ms))

-- a key's value where the table says nothing
abbrev pub base_value : Option Profile → (k : SettingKey) → Meaning (row_of k).kind
base_value None k = (row_of k).plain
base_value (Some Black) k = (row_of k).black

-- a key's value: what the table says, or else the base
abbrev pub value_at : Members → (k : SettingKey) → Meaning (row_of k).kind → Meaning (row_of k).kind
value_at ms k base =
    option_map_or (λ d. result_unwrap_or (read_value (own_names_in ms) (row_of k).kind k d) base) (get_member (name_of k) ms) base

-- the names of the members, in the table's order, which is that of their bytes
abbrev pub names_of : Members → List (List ℕ)
names_of no_members = []
names_of (member name d ms) = name ∷ names_of ms

-- a name that is a key where these are the keys of the own sections' lists
unfoldable pub is_key : List (List ℕ) → List ℕ → Bool
is_key own_keys name = is_known name || list_any (λ k. bytes_eq k name) own_keys

-- the names of the table that are no key
abbrev pub unknown_names : Members → List (List ℕ)
unknown_names ms = filter (λ name. not (is_key (map list_key (own_names_in ms)) name)) (names_of ms)

-- the values with the sections of a table, and with its list for each own one
abbrev pub with_sections : Members → Values → Values
with_sections ms v = record v {
  sections = (sections_in ms).order;
  own_names = own_names_in ms;
  own_lists = map (λ name. result_unwrap_or (own_list ms name) []) (own_names_in ms);
}

-- the values of a table under a profile
unfoldable pub values_in : Members → Option Profile → Values
values_in ms profile = with_sections ms (values_from (λ k. value_at ms k (base_value profile k)))

-- the settings that a table stands for under a profile, and the unknown names; or the first refusal
abbrev pub settings_in : Members → Option Profile → Result (Values × List (List ℕ)) SettingsError
settings_in ms profile = option_map_or (λ e. Err e) (first_refusal ms) (Ok (values_in ms profile, unknown_names ms))

-- the settings that a text stands for with a profile handed in, and the unknown names; or the first refusal
abbrev pub settings_of : List ℕ → Option Profile → Result (Values × List (List ℕ)) SettingsError
settings_of text handed_in =
    and_then (document_of text) (λ document.
    and_then (table_in document) (λ ms.
    and_then (profile_of handed_in ms) (λ profile.
    settings_in ms profile)))
