use Rattle.std.proofs.Common.{◌≡◌, drop}
use Rattle.isort_sort.specs.Sorted.{first_end}
use Rattle.isort_sort.proofs.line_end.LineEnd.first_of.Given as goal

abbrev pub invariant-loop-place : goal.invariant-loop-place
invariant-loop-place l = first_end l.text ≡ first_end (drop l.place l.text)
