-- What a table says of sections: `sections` itself, and the lists of the own ones.
pub mod Steps
use Rattle.std.specs.Prelude.{ℕ, if◌then◌else◌, List, [], ◌∷◌, ◌++◌, filter_map, Option, Some, None, option_map, option_and_then, ok_or, Result, Ok, Err}
use Rattle.std.specs.Cmp.Lexicographic.{slice_cmp}
use Rattle.std.specs.Option.{option_map_or}
use Rattle.std.specs.Ordering.{nat_cmp, is_lt}
use Rattle.std.specs.Result.{result_err, result_unwrap_or}
use Rattle.toml.specs.Data.{Data, Members, get_member, as_array}
use Rattle.isort_settings.specs.declared.error.SettingsError.{SettingsError}
use Rattle.isort_settings.specs.declared.error.SettingsError.TheVariants.{BadValue}
use Rattle.isort_settings.specs.declared.key.SettingKey.{SettingKey}
use Rattle.isort_settings.specs.declared.key.SettingKey.TheVariants as key
use Rattle.isort_settings.specs.Keys.{name_of}
use Rattle.isort_settings.specs.Reading.{entries_of}
use Rattle.isort_settings.specs.SectionNames.{list_key, SectionTable, five_alone, sections_of}

-- what the table's value of `sections` says, or its refusal
abbrev pub read_sections : Data → Result SectionTable SettingsError
read_sections d = ok_or (option_and_then sections_of (option_and_then entries_of (as_array d))) (BadValue key.Sections)

-- the sections of a table, where `sections` isn't refused: the five alone where it is absent
abbrev pub section_table : Members → Result SectionTable SettingsError
section_table ms = option_map_or read_sections (get_member (name_of key.Sections) ms) (Ok five_alone)

-- the sections that count for the other keys: the five alone where `sections` is refused, too
abbrev pub sections_in : Members → SectionTable
sections_in ms = result_unwrap_or (section_table ms) five_alone

-- the names of the own sections
abbrev pub own_names_in : Members → List (List ℕ)
own_names_in ms = (sections_in ms).own_names

-- the entries of the list under a name of the table, if it is a list of texts: none where the name isn't there
abbrev pub entries_under : Members → List ℕ → Option (List (List ℕ))
entries_under ms name = option_map_or (λ d. option_and_then entries_of (as_array d)) (get_member name ms) (Some [])

-- the list of the own section of a name
abbrev pub own_list : Members → List ℕ → Result (List (List ℕ)) SettingsError
own_list ms name = ok_or (entries_under ms (list_key name)) (BadValue (key.OwnList (list_key name)))

-- a key that is refused, and why
pub record Refused : Type 0 where
  pub what : SettingKey
  pub why : SettingsError

-- an answer for a key, if it is a refusal
abbrev pub refused_by : {A : Type 0} → SettingKey → Result A SettingsError → Option Refused
refused_by k answer = option_map (λ e. record { what = k; why = e }) (result_err answer)

-- of two refused keys the one whose name comes first by its bytes
abbrev pub earlier : Refused → Refused → Refused
earlier r s = if is_lt (slice_cmp nat_cmp (name_of s.what) (name_of r.what)) then s else r

-- of some refused keys the one whose name comes first by its bytes
abbrev pub first_refused : List Refused → Option Refused
first_refused [] = None
first_refused (r ∷ rs) = Some (option_map_or (earlier r) (first_refused rs) r)

-- the refused keys among `sections` and the lists of the own sections
abbrev pub sections_refused : Members → List Refused
sections_refused ms =
    filter_map (refused_by key.Sections) (section_table ms ∷ [])
    ++ filter_map (λ name. refused_by (key.OwnList (list_key name)) (own_list ms name)) (own_names_in ms)
