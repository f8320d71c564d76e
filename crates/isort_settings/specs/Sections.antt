-- The section of a module: the first pair of a dotted prefix, longest first, and a list that holds it. A section's name.
pub mod OnePrefix
use Rattle.std.specs.Prelude.{ℕ, ◌==◌, Bool, if◌then◌else◌, List, [], ◌∷◌, ◌++◌, map, filter, length, take, slice_index, Option, option_map, find, flat_map, get_or, zero, suc}
use Rattle.std.specs.List.{enumerate_from, position_or_len}
use Rattle.std.specs.Option.{option_map_or}
use Rattle.std.specs.Str.{byte}
use Rattle.isort_settings.specs.declared.section.Section.{Section}
use Rattle.isort_settings.specs.declared.section.Section.TheVariants.{Future, Stdlib, ThirdParty, FirstParty, LocalFolder, Own}
use Rattle.isort_settings.specs.FiveSections.{same_section, section_spelling}
pub use Rattle.isort_settings.specs.Holds.{holds}
use Rattle.isort_settings.specs.Values.{Values}

-- the place of a section among those of the settings, in the order in which they are printed, or how many there are where
-- it isn't one of them
abbrev pub section_rank : Values → Section → ℕ
section_rank v section = position_or_len (λ s. same_section s section) v.sections

-- the name of a section, as the settings spell it: no text where they have no such own section
abbrev pub section_name : Values → Section → List ℕ
section_name v (Own n) = get_or v.own_names n []
section_name v s = section_spelling s

-- the own sections with their lists, in their order
abbrev pub own_lists_of : Values → List (Section × List (List ℕ))
own_lists_of v = map (λ l. (Own l.0, l.1)) (enumerate_from 0 v.own_lists)

-- the five with their lists, in the order in which they are looked up
abbrev pub five_lists_of : Values → List (Section × List (List ℕ))
five_lists_of v =
    (LocalFolder, v.known_local_folder) ∷ (FirstParty, v.known_first_party) ∷ (ThirdParty, v.known_third_party)
    ∷ (Stdlib, v.known_standard_library ++ v.extra_standard_library) ∷ (Future, v.known_future_library) ∷ []

-- the sections with their lists, in the order in which they are looked up: the own ones first
abbrev pub lists_of : Values → List (Section × List (List ℕ))
lists_of v = own_lists_of v ++ five_lists_of v

-- the numbers below n, the largest first
abbrev pub below : ℕ → List ℕ
below zero = []
below (suc n) = n ∷ below n

-- the dotted prefixes of a module: all of it, and what stands before each dot, longest first
abbrev pub dotted_prefixes : List ℕ → List (List ℕ)
dotted_prefixes name = name ∷ map (λ i. take i name) (filter (λ i. slice_index name i == byte ".") (below (length name)))

-- each prefix with each list, prefix by prefix
abbrev pub pairs_of : Values → List ℕ → List (List ℕ × (Section × List (List ℕ)))
pairs_of v name = flat_map (λ prefix. map (λ l. (prefix, l)) (lists_of v)) (dotted_prefixes name)

-- the section of the first pair whose list holds the prefix, if there is one
abbrev pub section_listed : Values → List ℕ → Option Section
section_listed v name = option_map (λ p. p.1.0) (find (λ p. holds p.1.1 p.0) (pairs_of v name))

-- the section of a module: the local folder after a leading dot, the first pair's, or the default section
abbrev pub section_in : Values → List ℕ → Section
section_in v name =
    if slice_index name 0 == byte "." then LocalFolder
    else option_map_or (λ s. s) (section_listed v name) v.default_section
