use Rattle.std.proofs.Common.{arith}
use Rattle.std.proofs.lemmas.Grind.{common_steps}
use Rattle.isort_sort.proofs.layout.Layout.wraps.Goals as goal

pub returns-else-is_forced : goal.returns-else-is_forced
returns-else-is_forced c = grind (arith, common_steps)
