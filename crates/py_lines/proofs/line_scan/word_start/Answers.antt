use Rattle.py_lines.proofs.Prelude.{arith}
use Rattle.py_lines.proofs.line_scan.word_start.Goals as goal

pub returns-else-is_ascii_word : goal.returns-else-is_ascii_word
returns-else-is_ascii_word c = grind arith

pub returns-after-loop-start : goal.returns-after-loop-start
returns-after-loop-start c = grind arith
