use Rattle.isort_sort.proofs.Rows.Moved.{moved}
use Rattle.isort_sort.proofs.Rows.MovedRoles.{role_moved}
use Rattle.isort_sort.proofs.laws.moved_lines_stay_the_same.Goals as goal

pub returns : goal.returns
returns c = record { imports = λ l m h. moved l m h.text h.tokens; role = role_moved }
