-- No call of a script ends the text.
use Rattle.std.proofs.Common.{◌≡◌, false}
use Rattle.isort_tests.proofs.lines.scanner.tell_acts.Given as goal

abbrev pub invariant-loop-act : goal.invariant-loop-act
invariant-loop-act l = l.scanner.ended ≡ false
