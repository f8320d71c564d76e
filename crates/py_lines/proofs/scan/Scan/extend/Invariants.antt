use Rattle.py_lines.proofs.Prelude.{◌+◌, ◌-◌, length}
use Rattle.py_lines.proofs.LineScan.LineStops.{ComesAlong}
use Rattle.py_lines.proofs.scan.Scan.extend.Given as goal

abbrev pub invariant-pieces : goal.invariant-pieces
invariant-pieces l = ComesAlong l.fn.self l.fn.bytes l.self

abbrev pub decreases-pieces : goal.decreases-pieces
decreases-pieces l = l.fn.self.stop + length l.fn.bytes - l.self.stop
