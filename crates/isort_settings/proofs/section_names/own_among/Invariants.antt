-- The own names so far.
use Rattle.std.proofs.Common.{◌≡◌, map, take, string_bytes}
use Rattle.isort_settings.specs.SectionNames.{own_among}
use Rattle.isort_settings.proofs.section_names.own_among.Given as goal

abbrev pub invariant-loop-name : goal.invariant-loop-name
invariant-loop-name l = map string_bytes l.own.items ≡ own_among (map string_bytes (take l.name-index l.names))
