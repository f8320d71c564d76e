use Rattle.std.proofs.lemmas.Result.{on_ok_weaker}
use Rattle.isort_sort.specs.Private.Arranged.{text_left}
use Rattle.isort_sort.proofs.SortedTexts.Comparing.{takes_both}
use Rattle.isort_sort.proofs.parts.Part.compare.Goals as goal

pub returns : goal.returns
returns c = on_ok_weaker c.compare.result (takes_both c.args.compared.now c.take.new.self c.compare.new.compared c.args.self.before.now (text_left c.args.self.layout) c.take.ensures) c.compare.ensures
