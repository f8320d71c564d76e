use Rattle.py_lines.proofs.Prelude.{arith}
use Rattle.py_lines.proofs.run.comment_run.Goals as goal

pub char-bytes : goal.char-bytes
char-bytes c = grind arith

pub bounds-bytes-0 : goal.bounds-bytes-0
bounds-bytes-0 c = grind arith
