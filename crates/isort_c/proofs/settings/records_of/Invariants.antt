use Rattle.std.proofs.Common.{◌≡◌, map, take, string_bytes}
use Rattle.isort_c.specs.Records.{name_records}
use Rattle.isort_c.proofs.settings.records_of.Given as goal

abbrev pub invariant-loop-name : goal.invariant-loop-name
invariant-loop-name l = l.records.items ≡ name_records (map string_bytes (take l.name-index l.names))
