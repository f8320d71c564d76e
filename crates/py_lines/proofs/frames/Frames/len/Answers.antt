use Rattle.std.proofs.lemmas.Grind.{common_steps}
use Rattle.py_lines.proofs.Prelude.{arith}
use Rattle.py_lines.proofs.frames.Frames.len.Goals as goal

pub returns-clause-is : goal.returns-clause-is
returns-clause-is c = grind (arith, common_steps)
