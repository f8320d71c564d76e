use Rattle.std.proofs.Common.{codes}
use Rattle.isort_sort.proofs.Rows.Markers.{first_found, none_found}
use Rattle.isort_sort.proofs.markers.next_action.Goals as goal

pub returns-in-Some : goal.returns-in-Some
returns-in-Some c = first_found c.args.text.now (codes "isort:") c.args.start c.in-Some.len c.in-Some.ensures

pub returns-in-None : goal.returns-in-None
returns-in-None c = none_found c.args.text.now (codes "isort:") c.args.start c.requires c.in-None.ensures
