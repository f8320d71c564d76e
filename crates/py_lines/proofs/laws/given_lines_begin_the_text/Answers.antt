use Rattle.py_lines.proofs.Lexings.FirstLines.{given_begin}
use Rattle.py_lines.proofs.laws.given_lines_begin_the_text.Goals as goal

pub returns : goal.returns
returns c = record { begin = given_begin }
