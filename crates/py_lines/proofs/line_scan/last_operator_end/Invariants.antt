use Rattle.py_lines.proofs.Prelude.{◌≤◌, length}
use Rattle.py_lines.proofs.line_scan.last_operator_end.Given as goal

abbrev pub invariant-loop-end : goal.invariant-loop-end
invariant-loop-end l = record { within : l.end ≤ length l.plain }

abbrev pub decreases-loop-end : goal.decreases-loop-end
decreases-loop-end l = l.end
