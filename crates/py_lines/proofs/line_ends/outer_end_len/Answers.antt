use Rattle.py_lines.proofs.Prelude.{arith, nat_tests}
use Rattle.py_lines.proofs.line_ends.outer_end_len.Goals as goal

pub returns-in-13-2 : goal.returns-in-13-2
returns-in-13-2 c = grind arith

pub returns-in-13 : goal.returns-in-13
returns-in-13 c = grind arith

pub returns-in-10 : goal.returns-in-10
returns-in-10 c = grind arith

pub returns-in-10-2 : goal.returns-in-10-2
returns-in-10-2 c = grind (arith, nat_tests)

pub bounds-bytes-1 : goal.bounds-bytes-1
bounds-bytes-1 c = grind arith

pub bounds-bytes-0 : goal.bounds-bytes-0
bounds-bytes-0 c = grind arith
