use Rattle.py_lines.proofs.Prelude.{arith, nat_tests}
use Rattle.py_lines.proofs.line_tokens.line_end_len.Goals as goal

pub returns-then-starts_with : goal.returns-then-starts_with
returns-then-starts_with c = grind (arith, nat_tests)
