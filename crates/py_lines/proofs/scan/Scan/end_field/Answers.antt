use Rattle.py_lines.proofs.Prelude.{arith}
use Rattle.py_lines.proofs.scan.Scan.end_field.Goals as goal

pub overflow_add-self : goal.overflow_add-self
overflow_add-self c = grind arith
