-- The text as it is.
use Rattle.std.proofs.Common.{◌∙◌}
use Rattle.isort_settings.proofs.own_key.OwnKey.as_str.Goals as goal

pub returns : goal.returns
returns c = c.as_str.ensures.value ∙ c.self.view_is
