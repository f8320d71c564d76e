-- The five sections that are always there, the own ones, and the order in which sections are printed.
use Rattle.std.specs.Prelude.{◌≡◌, codes, ℕ, ◌+◌, ◌==◌, nat_lt, Bool, true, if◌then◌else◌, List, [], ◌∷◌, Option, find, bytes_eq}
use Rattle.std.specs.List.{count_by}
use Rattle.isort_settings.specs.declared.section.Section.{Section}
use Rattle.isort_settings.specs.declared.section.Section.TheVariants.{Future, Stdlib, ThirdParty, FirstParty, LocalFolder, Own}
use Rattle.isort_settings.specs.declared.section_order.SectionOrder.{SectionOrder}
use Rattle.isort_settings.specs.declared.section_order.SectionOrder.TheVariants.{Usual, Listed}

-- the five sections in their usual order
abbrev pub usual_order : List Section
usual_order = Future ∷ Stdlib ∷ ThirdParty ∷ FirstParty ∷ LocalFolder ∷ []

-- how the settings spell one of the five (an own section has no spelling by itself)
abbrev pub section_spelling : Section → List ℕ
section_spelling Future = codes "FUTURE"
section_spelling Stdlib = codes "STDLIB"
section_spelling ThirdParty = codes "THIRDPARTY"
section_spelling FirstParty = codes "FIRSTPARTY"
section_spelling LocalFolder = codes "LOCALFOLDER"
section_spelling (Own i) = []

-- the one of the five that a text spells
abbrev pub section_spelled : List ℕ → Option Section
section_spelled text = find (λ s. bytes_eq (section_spelling s) text) usual_order

-- the sections in order, as settings have them
abbrev pub order_of : SectionOrder → List Section
order_of Usual = usual_order
order_of (Listed sections) = sections.items

-- a number of its own for each section
abbrev pub section_number : Section → ℕ
section_number Future = 0
section_number Stdlib = 1
section_number ThirdParty = 2
section_number FirstParty = 3
section_number LocalFolder = 4
section_number (Own i) = 5 + i

-- the same section
abbrev pub same_section : Section → Section → Bool
same_section s t = section_number s == section_number t

-- a section that is there where so many are own ones
abbrev pub is_there : ℕ → Section → Bool
is_there count (Own i) = nat_lt i count
is_there count _ = true

-- how often a section stands in an order
unfoldable pub times_in : List Section → Section → ℕ
times_in order s = count_by (same_section s) order

-- in the order each section that is there stands once, and no other one does
abbrev pub StandOnce : ℕ → List Section → Type 0
StandOnce count order = (s : Section) → times_in order s ≡ (if is_there count s then 1 else 0)
