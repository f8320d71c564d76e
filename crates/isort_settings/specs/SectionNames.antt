-- What `sections` may list, and the sections that it gives.
use Rattle.std.specs.Prelude.{codes, ℕ, ◌==◌, Bool, true, not, ◌&&◌, ◌||◌, nat_le, if◌then◌else◌, List, [], ◌∷◌, ◌++◌, filter, filter_map, length, slice_index, Option, Some, None, is_some, option_map, bytes_eq}
use Rattle.std.specs.Char.{is_ascii_alphabetic, is_ascii_alphanumeric}
use Rattle.std.specs.List.{list_any, list_all, position}
use Rattle.std.specs.Option.{option_or}
use Rattle.std.specs.Str.{byte, str_eq_ignore_ascii_case, str_to_ascii_lowercase}
use Rattle.isort_settings.specs.declared.section.Section.{Section}
use Rattle.isort_settings.specs.declared.section.Section.TheVariants.{Own}
use Rattle.isort_settings.specs.FiveSections.{usual_order, section_spelling, section_spelled}
use Rattle.isort_settings.specs.Keys.{is_known}

-- ASCII letters, digits and `_`, first a letter
abbrev pub is_plain_name : List ℕ → Bool
is_plain_name name = is_ascii_alphabetic (slice_index name 0) && list_all (λ c. is_ascii_alphanumeric c || c == byte "_") name

-- the name of one of the five when the case of ASCII letters is ignored
abbrev pub is_one_of_five : List ℕ → Bool
is_one_of_five name = list_any (λ s. str_eq_ignore_ascii_case (section_spelling s) name) usual_order

-- the key of an own section's list: `known_` and the section's name in small letters
abbrev pub list_key : List ℕ → List ℕ
list_key name = codes "known_" ++ str_to_ascii_lowercase name

-- a name that an own section may have: a word, none of the five whatever its case, and none whose list would be a key
-- that is there already
abbrev pub is_own_name : List ℕ → Bool
is_own_name name = is_plain_name name && not (is_one_of_five name) && not (is_known (list_key name))

-- a name that may be listed: one of the five by its exact spelling, or an own one
abbrev pub is_section_name : List ℕ → Bool
is_section_name name = is_some (section_spelled name) || is_own_name name

-- no name comes twice, whatever the case of its ASCII letters
abbrev pub are_apart : List (List ℕ) → Bool
are_apart [] = true
are_apart (name ∷ names) = not (list_any (λ other. str_eq_ignore_ascii_case other name) names) && are_apart names

-- the own names among some names
abbrev pub own_among : List (List ℕ) → List (List ℕ)
own_among names = filter (λ name. not (is_some (section_spelled name))) names

-- names that may be listed together: each may be listed, at most 64 are own, and none comes twice
abbrev pub are_sections : List (List ℕ) → Bool
are_sections names = list_all is_section_name names && nat_le (length (own_among names)) 64 && are_apart names

-- the section that a text names where these are the own names: one of the five, or an own one by its exact spelling
abbrev pub section_named : List (List ℕ) → List ℕ → Option Section
section_named own text = option_or (section_spelled text) (option_map (λ i. Own i) (position (λ name. bytes_eq name text) own))

-- the sections that some names list, and after them those of the five that are missing, in their usual order
abbrev pub order_listed : List (List ℕ) → List Section
order_listed names =
    filter_map (section_named (own_among names)) names
    ++ filter (λ s. not (list_any (λ name. bytes_eq name (section_spelling s)) names)) usual_order

-- sections: their order, and the names of the own ones
pub record SectionTable : Type 0 where
  pub order : List Section
  pub own_names : List (List ℕ)

-- the five alone
abbrev pub five_alone : SectionTable
five_alone = record { order = usual_order; own_names = [] }

-- the sections of names that may be listed together
abbrev pub sections_of : List (List ℕ) → Option SectionTable
sections_of names = if are_sections names then Some (record { order = order_listed names; own_names = own_among names }) else None
