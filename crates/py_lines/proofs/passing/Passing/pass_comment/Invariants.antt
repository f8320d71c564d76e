use Rattle.py_lines.proofs.Prelude.{◌-◌, length}
use Rattle.py_lines.proofs.PassedPieces.Reads.{ReadsComment}
use Rattle.py_lines.proofs.passing.Passing.pass_comment.Given as goal

abbrev pub invariant-specials : goal.invariant-specials
invariant-specials l = ReadsComment l.bytes l.at l.end l.marks

abbrev pub decreases-specials : goal.decreases-specials
decreases-specials l = length l.bytes - l.end
