use Rattle.std.proofs.lemmas.Grind.{common_steps}
use Rattle.py_lines.proofs.Prelude.{arith}
use Rattle.py_lines.proofs.line_state.LineState.fail.Goals as goal

pub returns : goal.returns
returns c = grind (arith, common_steps)
