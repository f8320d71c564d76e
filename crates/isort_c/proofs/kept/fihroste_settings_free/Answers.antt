use Rattle.std.proofs.Common.{ap}
use Rattle.isort_c.specs.Kept.{stored_reading}
use Rattle.isort_c.proofs.kept.fihroste_settings_free.Goals as goal

pub returns : goal.returns
returns c = ap stored_reading c.take.ensures.left
