use Rattle.py_lines.proofs.Prelude.{◌-◌, length}
use Rattle.py_lines.specs.Private.Passing.{IsCounted}
use Rattle.py_lines.proofs.PassedPieces.Pieces.{HasPassed}
use Rattle.py_lines.proofs.scan.Scan.take_pieces.Given as goal

abbrev pub invariant-specials : goal.invariant-specials
invariant-specials l = HasPassed l.fn.self l.bytes l.at l.self l.passing × IsCounted l.bytes l.passing

abbrev pub decreases-specials : goal.decreases-specials
decreases-specials l = length l.bytes - l.at
