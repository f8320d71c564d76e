-- What is left of the two texts decides, and the first becomes shorter.
use Rattle.std.proofs.Common.{◌≡◌, length}
use Rattle.std.specs.Cmp.Lexicographic.{slice_cmp}
use Rattle.isort_settings.specs.Orders.{part_cmp, parts}
use Rattle.isort_settings.proofs.order.parts_cmp.Given as goal

abbrev pub invariant-loop-a_rest : goal.invariant-loop-a_rest
invariant-loop-a_rest l =
    slice_cmp part_cmp (parts l.case_sensitive l.a) (parts l.case_sensitive l.b)
    ≡ slice_cmp part_cmp (parts l.case_sensitive l.a_left) (parts l.case_sensitive l.b_left)

abbrev pub decreases-loop-a_rest : goal.decreases-loop-a_rest
decreases-loop-a_rest l = length l.a_left
