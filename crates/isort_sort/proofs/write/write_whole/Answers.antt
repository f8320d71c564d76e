use Rattle.std.proofs.Common.{take, ◌++◌}
use Rattle.std.proofs.KnownBytes.{Appends-trans}
use Rattle.isort_sort.proofs.SortedTexts.Written.{split_more}
use Rattle.isort_sort.proofs.write.write_whole.Goals as goal

pub loop-rest-preserved : goal.loop-rest-preserved
loop-rest-preserved g c =
    let written = c.loop-rest.invariant in
    (written.0 ++ take c.in_ok-count.count c.loop-rest.rest.now, c.in_ok-count.ensures.fine, split_more _ _ _ _ written.2 c.in_ok-count.ensures.bound, Appends-trans _ _ _ _ _ written.3 c.in_ok-count.ensures.bytes)
