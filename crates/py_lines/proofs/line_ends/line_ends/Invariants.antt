use Rattle.py_lines.proofs.Prelude.{◌≡◌, ◌+◌, ◌≤◌, length, line_ends}
use Rattle.py_lines.specs.Private.LineEnds.{lone_returns}
use Rattle.py_lines.proofs.line_ends.line_ends.Given as goal

abbrev pub invariant-loop-at : goal.invariant-loop-at
invariant-loop-at l = record { within : length l.rest ≤ length l.bytes; count : l.count + lone_returns l.rest ≡ line_ends l.bytes }

abbrev pub decreases-loop-at : goal.decreases-loop-at
decreases-loop-at l = length l.rest
