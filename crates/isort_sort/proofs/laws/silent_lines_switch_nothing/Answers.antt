use Rattle.isort_sort.proofs.Rows.Switches.{same_switch}
use Rattle.isort_sort.proofs.laws.silent_lines_switch_nothing.Goals as goal

pub returns : goal.returns
returns c = same_switch
