use Rattle.isort_sort.proofs.SortedTexts.Comparing.{ends_no_more, ends_or_not}
use Rattle.isort_sort.proofs.comparison.Comparison.ends_with.Goals as goal

pub returns-in-Some : goal.returns-in-Some
returns-in-Some c = λ text pieces is. ends_or_not text pieces c.args.last.now c.in-Some.left c.eq.result c.args.self.now c.in-Some.is is c.eq.ensures

pub returns-in-None : goal.returns-in-None
returns-in-None c = λ text pieces is. ends_no_more text pieces c.args.last.now c.args.self.now c.in-None.is is
