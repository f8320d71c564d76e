use Rattle.py_lines.proofs.Prelude.{◌-◌, ◌+◌, ◌≤◌, length}
use Rattle.py_lines.specs.Private.LineTokens.{HaveReadAnyway}
use Rattle.py_lines.specs.Private.Passing.{IsCounted}
use Rattle.py_lines.proofs.PassedPieces.Pieces.{HasPassed}
use Rattle.py_lines.proofs.simple_line.read_simple_line.Given as goal

abbrev pub invariant-specials : goal.invariant-specials
invariant-specials l =
    HasPassed l.fn.scan l.bytes l.at l.scan l.passing × IsCounted l.bytes l.passing × (l.line_here ≤ l.line + l.start)
    × HaveReadAnyway l.bytes l.line l.start l.line_here l.tokens.items

abbrev pub decreases-specials : goal.decreases-specials
decreases-specials l = length l.bytes - l.at
