use Rattle.py_lines.proofs.Neighbours.{neighbours_read}
use Rattle.py_lines.proofs.laws.neighbours_are_read.Goals as goal

pub returns : goal.returns
returns c = neighbours_read
