use Rattle.std.proofs.Common.{subst, arith}
use Rattle.isort_sort.specs.Private.Markers.{IsSilentBetween}
use Rattle.isort_sort.proofs.Rows.Markers.{both_free}
use Rattle.isort_sort.proofs.markers.Markers.free_up_to.Goals as goal

pub returns-clause-free : goal.returns-clause-free
returns-clause-free c =
    let stop = c.min.result in
    both_free c.args.self.now c.args.start c.clear_up_to-clear.result c.silent_up_to.result stop c.clear_up_to-clear.ensures.none
    (subst (λ t. IsSilentBetween t c.args.start c.silent_up_to.result) c.clear_up_to-clear.ensures.same c.silent_up_to.ensures.silent) (omega (arith, c.min.ensures)) (omega (arith, c.min.ensures))
