-- A word for the code alone, which no public clause names: the look-up of one prefix.
use Rattle.std.specs.Prelude.{ℕ, List, Option, option_map, find}
use Rattle.isort_settings.specs.declared.section.Section.{Section}
use Rattle.isort_settings.specs.Sections.{holds}

-- the section of the first of some lists that holds a text
abbrev pub section_holding : List (Section × List (List ℕ)) → List ℕ → Option Section
section_holding lists text = option_map (λ l. l.0) (find (λ l. holds l.1 text) lists)
