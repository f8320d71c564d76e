-- The text is open before each piece.
use Rattle.std.proofs.Common.{◌≡◌, false}
use Rattle.isort_tests.proofs.lines.scanner.tell_pieces.Given as goal

abbrev pub invariant-loop-piece : goal.invariant-loop-piece
invariant-loop-piece l = l.scanner.ended ≡ false
