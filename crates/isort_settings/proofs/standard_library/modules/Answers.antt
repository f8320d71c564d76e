-- The list in the code is the one that the definition names.
use Rattle.std.proofs.Common.{refl}
use Rattle.isort_settings.specs.StandardLibrary.{standard_library}
use Rattle.isort_settings.proofs.standard_library.modules.Goals as goal

pub returns : goal.returns
unfolding standard_library
returns c = refl
