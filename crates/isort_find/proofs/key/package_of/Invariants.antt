-- The bytes so far are part of the package, and what follows them belongs to its dots or its first name.
use Rattle.std.proofs.Common.{◌≡◌, ◌++◌, take, drop, if◌then◌else◌}
use Rattle.isort_find.specs.Key.{package_of, first_name}
use Rattle.isort_find.proofs.key.package_of.Given as goal

abbrev pub invariant-bytes : goal.invariant-bytes
invariant-bytes l = package_of l.name ≡ take l.place l.name ++ (if l.named then first_name (drop l.place l.name) else package_of (drop l.place l.name))
