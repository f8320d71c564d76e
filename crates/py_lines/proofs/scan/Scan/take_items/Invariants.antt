use Rattle.py_lines.proofs.Prelude.{◌≤◌, length}
use Rattle.py_lines.proofs.LineScan.LineStops.{GoesTo}
use Rattle.py_lines.proofs.scan.Scan.take_items.Given as goal

abbrev pub invariant-items : goal.invariant-items
invariant-items l = record {
  goes : GoesTo l.fn.self l.fn.bytes l.self l.rest;
  further : l.fn.self.stop ≤ l.self.stop;
}

abbrev pub decreases-items : goal.decreases-items
decreases-items l = length l.rest
