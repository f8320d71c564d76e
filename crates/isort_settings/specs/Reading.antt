-- What a TOML value says for a key of each kind, or how it is refused.
use Rattle.std.specs.Prelude.{codes, ℕ, ℤ, pos, negsuc, ◌&&◌, nat_le, int_le, if◌then◌else◌, List, [], ◌∷◌, Option, Some, None, option_map, option_and_then, ok_or, Result, Ok, Err, bytes_eq}
use Rattle.std.specs.List.{list_any}
use Rattle.std.specs.Option.{option_map_or}
use Rattle.toml.specs.Data.{Data, as_str, as_integer, as_bool, as_array, Items, no_items, item}
use Rattle.isort_settings.specs.declared.error.SettingsError.{SettingsError}
use Rattle.isort_settings.specs.declared.error.SettingsError.TheVariants.{BadValue, UnknownProfile, UnsupportedMode}
use Rattle.isort_settings.specs.declared.key.SettingKey.{SettingKey}
use Rattle.isort_settings.specs.declared.profile.Profile.{Profile}
use Rattle.isort_settings.specs.declared.profile.Profile.TheVariants.{Black}
use Rattle.isort_settings.specs.Entries.{is_wildcard}
use Rattle.isort_settings.specs.SectionNames.{section_named}
use Rattle.isort_settings.specs.Keys.{Kind, count, whole, wrap_mode, flag, section, texts, no_field, Meaning}

-- the profile that a text names
abbrev pub profile_named : List ℕ → Result Profile SettingsError
profile_named name = if bytes_eq name (codes "black") then Ok Black else Err UnknownProfile

-- an entry of a list: a text without `*` and `?`
abbrev pub entry_of : Data → Option (List ℕ)
entry_of d = option_and_then (λ s. if list_any is_wildcard s then None else Some s) (as_str d)

-- the entries of an array, if each item is one
abbrev pub entries_of : Items → Option (List (List ℕ))
entries_of no_items = Some []
entries_of (item d ds) = option_and_then (λ s. option_map (λ more. s ∷ more) (entries_of ds)) (entry_of d)

-- a whole number from low to high: one that isn't negative, or one of either sign
abbrev pub count_within : ℕ → ℕ → ℤ → Option ℕ
count_within low high (pos n) = if nat_le low n && nat_le n high then Some n else None
count_within low high (negsuc n) = None

abbrev pub whole_within : ℤ → ℤ → ℤ → Option ℤ
whole_within low high z = if int_le low z && int_le z high then Some z else None

-- what a TOML value says for a key of this kind, with these own sections, or its refusal: a whole number that is no wrap
-- mode is refused as one, and every other value of another kind or out of range as a bad value for the key
abbrev pub read_value : List (List ℕ) → (kind : Kind) → SettingKey → Data → Result (Meaning kind) SettingsError
read_value own (count low high) k d = ok_or (option_and_then (count_within low high) (as_integer d)) (BadValue k)
read_value own (whole low high) k d = ok_or (option_and_then (whole_within low high) (as_integer d)) (BadValue k)
read_value own wrap_mode k d = option_map_or (λ z. ok_or (count_within 0 3 z) UnsupportedMode) (as_integer d) (Err (BadValue k))
read_value own flag k d = ok_or (as_bool d) (BadValue k)
read_value own section k d = ok_or (option_and_then (section_named own) (as_str d)) (BadValue k)
read_value own texts k d = ok_or (option_and_then entries_of (as_array d)) (BadValue k)
read_value own no_field k d = Ok tt
