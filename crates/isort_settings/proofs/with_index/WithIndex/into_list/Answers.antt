-- The list itself.
use Rattle.std.proofs.Common.{refl}
use Rattle.isort_settings.proofs.with_index.WithIndex.into_list.Goals as goal

pub returns : goal.returns
returns g c = refl
