use Rattle.py_lines.proofs.Prelude.{arith}
use Rattle.std.proofs.lemmas.Grind.{common_steps}
use Rattle.py_lines.proofs.line_scan.last_operator_end.Goals as goal

pub loop-end-init : goal.loop-end-init
loop-end-init c = grind (arith, common_steps)

pub loop-end-smaller : goal.loop-end-smaller
loop-end-smaller c = grind (arith, common_steps)

pub loop-end-preserved : goal.loop-end-preserved
loop-end-preserved c = grind (arith, common_steps)

pub returns-else-not-matches : goal.returns-else-not-matches
returns-else-not-matches c = grind (arith, common_steps)

pub returns-after-loop-end : goal.returns-after-loop-end
returns-after-loop-end c = grind (arith, common_steps)

pub overflow_sub-end-in-loop-end : goal.overflow_sub-end-in-loop-end
overflow_sub-end-in-loop-end c = grind arith
