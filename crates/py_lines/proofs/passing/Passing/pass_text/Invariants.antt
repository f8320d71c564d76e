use Rattle.py_lines.proofs.Prelude.{◌-◌, length, slice_index}
use Rattle.py_lines.proofs.PassedPieces.Reads.{ReadsText}
use Rattle.py_lines.proofs.passing.Passing.pass_text.Given as goal

abbrev pub invariant-specials : goal.invariant-specials
invariant-specials l = ReadsText (slice_index l.bytes l.at) l.bytes l.at l.end l.marks

abbrev pub decreases-specials : goal.decreases-specials
decreases-specials l = length l.bytes - l.end
