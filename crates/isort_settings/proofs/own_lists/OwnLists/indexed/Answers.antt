-- One list more.
use Rattle.isort_settings.proofs.Indexes.{one_list_more}
use Rattle.isort_settings.proofs.own_lists.OwnLists.indexed.Goals as goal

pub loop-place-preserved : goal.loop-place-preserved
loop-place-preserved c =
    λ text. one_list_more c.deref-list-items.result.now c.loop-place.place c.list-item.result text _ _ c.loop-place-test.true c.list-item.is (c.loop-place.invariant text)
    (rw c.deref.ensures.value at (c.in_ok-add_list.ensures text))
