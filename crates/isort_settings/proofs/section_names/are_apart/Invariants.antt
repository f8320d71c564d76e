-- The names that are left decide.
use Rattle.std.proofs.Common.{◌≡◌, map, drop, string_bytes}
use Rattle.isort_settings.specs.SectionNames.{are_apart}
use Rattle.isort_settings.proofs.section_names.are_apart.Given as goal

abbrev pub invariant-loop-place : goal.invariant-loop-place
invariant-loop-place l = are_apart (map string_bytes l.names) ≡ are_apart (map string_bytes (drop l.place l.names))
