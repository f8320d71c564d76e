-- Out of memory is told by the line that says so.
use Rattle.std.proofs.Common.{refl}
use Rattle.isort_cmd.proofs.usage.UsageError.text.Goals as goal

pub returns-in-Memory : goal.returns-in-Memory
returns-in-Memory c = rw c.in-Memory.is refl
