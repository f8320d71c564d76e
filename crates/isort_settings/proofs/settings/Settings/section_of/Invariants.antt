-- The prefixes that are left decide.
use Rattle.std.proofs.Common.{◌≡◌}
use Rattle.std.specs.Option.{option_map_or}
use Rattle.isort_settings.specs.Sections.{lists_of, section_in}
use Rattle.isort_settings.specs.Values.{values}
use Rattle.isort_settings.proofs.Prefixes.{section_of_cuts}
use Rattle.isort_settings.proofs.settings.Settings.section_of.Given as goal

abbrev pub invariant-loop-stop : goal.invariant-loop-stop
invariant-loop-stop l =
    section_in (values l.self) l.«module» ≡ option_map_or (λ s. s) (section_of_cuts (lists_of (values l.self)) l.«module» l.stop) l.self.default_section
