use Rattle.std.proofs.Common.{refl}
use Rattle.isort_sort.proofs.metered.Metered.last.Goals as goal

pub returns : goal.returns
returns g c = refl
