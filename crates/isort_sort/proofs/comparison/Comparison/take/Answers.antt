use Rattle.isort_sort.proofs.SortedTexts.Comparing.{takes_by_none, takes_by_strip}
use Rattle.isort_sort.proofs.comparison.Comparison.take.Goals as goal

pub returns-in_default : goal.returns-in_default
returns-in_default c = takes_by_none c.args.self.now c.args.piece.now c.in_default.is

pub returns : goal.returns
returns c = takes_by_strip c.args.self.now _ c.in-Some.left c.args.piece.now c.in-Some.is c.strip_prefix-self.ensures.cases
