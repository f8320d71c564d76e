-- One name more.
use Rattle.isort_settings.proofs.Indexes.{one_name_more}
use Rattle.isort_settings.proofs.index.Index.add_list.Goals as goal

pub loop-name-preserved : goal.loop-name-preserved
loop-name-preserved c = λ text. one_name_more c.args.list.now c.loop-name.name-index c.args.place c.name-item.result text _ _ _ c.loop-name-test.true c.name-item.is (c.loop-name.invariant text) (c.in_ok-add_module.ensures text)
