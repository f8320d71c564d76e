use Rattle.std.proofs.lemmas.Grind.{common_steps}
use Rattle.py_lines.proofs.Prelude.{arith}
use Rattle.py_lines.proofs.string_text.quotes_len.Goals as goal

pub bounds-bytes-1 : goal.bounds-bytes-1
bounds-bytes-1 c = grind (arith, common_steps)

pub bounds-bytes-0-2 : goal.bounds-bytes-0-2
bounds-bytes-0-2 c = grind arith
