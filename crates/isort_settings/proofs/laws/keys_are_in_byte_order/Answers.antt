-- The names are compared one by one.
use Rattle.isort_settings.proofs.KeyLaws.{keys-ascend}
use Rattle.isort_settings.proofs.laws.keys_are_in_byte_order.Goals as goal

pub returns : goal.returns
returns c = keys-ascend
