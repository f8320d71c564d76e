-- The items of the list as they are.
use Rattle.isort_settings.proofs.with_index.WithIndex.as_slice.Goals as goal

pub returns : goal.returns
returns g c = c.as_slice.ensures.value
