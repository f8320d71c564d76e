-- The text as it is.
use Rattle.std.proofs.Common.{refl}
use Rattle.isort_settings.proofs.own_key.OwnKey.new.Goals as goal

pub returns : goal.returns
returns c = refl
