use Rattle.py_lines.proofs.Prelude.{arith, nat_tests}
use Rattle.py_lines.proofs.line_tokens.space_len.Goals as goal

pub char-b : goal.char-b
char-b c = grind arith

pub bounds-bytes-0 : goal.bounds-bytes-0
bounds-bytes-0 c = grind (arith, nat_tests)
