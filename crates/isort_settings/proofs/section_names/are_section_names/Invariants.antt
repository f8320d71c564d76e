-- The names that are left decide.
use Rattle.std.proofs.Common.{◌≡◌, map, drop, string_bytes}
use Rattle.std.specs.List.{list_all}
use Rattle.isort_settings.specs.SectionNames.{is_section_name}
use Rattle.isort_settings.proofs.section_names.are_section_names.Given as goal

abbrev pub invariant-loop-name : goal.invariant-loop-name
invariant-loop-name l =
    list_all is_section_name (map string_bytes l.names) ≡ list_all is_section_name (map string_bytes (drop l.name-index l.names))
