-- Key by key.
use Rattle.isort_settings.proofs.KeyLaws.{keys-complete}
use Rattle.isort_settings.proofs.laws.every_key_has_its_place.Goals as goal

pub returns : goal.returns
returns c = keys-complete c.args.key
