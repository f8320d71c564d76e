use Rattle.py_lines.proofs.Prelude.{arith}
use Rattle.py_lines.proofs.frames.Frames.close.Goals as goal

pub returns-in-Some-Bracket : goal.returns-in-Some-Bracket
returns-in-Some-Bracket c = grind arith
