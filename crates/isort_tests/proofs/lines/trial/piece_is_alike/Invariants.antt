-- Feeding a piece ends no text.
use Rattle.std.proofs.Common.{◌≡◌, false}
use Rattle.isort_tests.proofs.lines.trial.piece_is_alike.Given as goal

abbrev pub invariant-loop : goal.invariant-loop
invariant-loop l = l.scanner.ended ≡ false
