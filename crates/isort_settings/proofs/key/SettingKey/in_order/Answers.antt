-- The list in the code is the one that the definition names.
use Rattle.std.proofs.Common.{rules}
use Rattle.isort_settings.specs.Keys.{keys_in_order}
use Rattle.isort_settings.proofs.key.SettingKey.in_order.Goals as goal

pub returns : goal.returns
unfolding keys_in_order
returns c = search rules
