-- The lists are the same just where what is left of them is.
use Rattle.std.proofs.Common.{◌≡◌, drop, bytes_eq}
use Rattle.std.specs.Cmp.Lexicographic.{pointwise}
use Rattle.isort_settings.specs.Modules.{modules_of}
use Rattle.isort_settings.proofs.modules.ModulesPartialEq.eq.Given as goal

abbrev pub invariant-loop-index : goal.invariant-loop-index
invariant-loop-index l =
    pointwise bytes_eq (modules_of l.self) (modules_of l.other) ≡ pointwise bytes_eq (drop l.index (modules_of l.self)) (drop l.index (modules_of l.other))
