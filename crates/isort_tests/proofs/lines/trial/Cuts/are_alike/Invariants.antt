-- The text is open before each piece.
use Rattle.std.proofs.Common.{◌≡◌, false}
use Rattle.isort_tests.proofs.lines.trial.Cuts.are_alike.Given as goal

abbrev pub invariant-loop : goal.invariant-loop
invariant-loop l = l.scanner.ended ≡ false
