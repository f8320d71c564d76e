-- The keys of the names so far.
use Rattle.std.proofs.Common.{◌≡◌, map, take, string_bytes}
use Rattle.isort_settings.specs.SectionNames.{list_key}
use Rattle.isort_settings.proofs.pyproject.own_keys.Given as goal

abbrev pub invariant-loop-name : goal.invariant-loop-name
invariant-loop-name l = l.keys.items ≡ map list_key (map string_bytes (take l.name-index l.own_names))
