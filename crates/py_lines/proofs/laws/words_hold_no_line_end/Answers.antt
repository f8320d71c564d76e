use Rattle.py_lines.proofs.WordBreaks.{word-unbroken}
use Rattle.py_lines.proofs.laws.words_hold_no_line_end.Goals as goal

pub returns : goal.returns
returns c = word-unbroken
