use Rattle.py_lines.proofs.LineScan.WholeLines.{HasPassedLines, left}
use Rattle.py_lines.proofs.scan.Scan.pass_lines.Given as goal

abbrev pub invariant-specials : goal.invariant-specials
invariant-specials l = HasPassedLines l.fn.bytes l.self.frames l.at l.passing

-- a line end leads beyond the line's start, and all else beyond what was passed
abbrev pub decreases-specials : goal.decreases-specials
decreases-specials l = left l.fn.bytes l.passing
