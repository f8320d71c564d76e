-- The lists as they are.
use Rattle.std.proofs.Common.{refl}
use Rattle.isort_settings.proofs.own_lists.OwnListsFromVecVecString.from.Goals as goal

pub returns : goal.returns
returns c = refl
