-- The paths passed were copied.
use Rattle.std.proofs.Common.{◌≡◌, map, take, string_bytes}
use Rattle.isort_cmd.proofs.choice.files_of.Given as goal

abbrev pub invariant-loop-path : goal.invariant-loop-path
invariant-loop-path l = map string_bytes l.files.items ≡ map (λ t. t.now) (take l.path-index l.path-items)
