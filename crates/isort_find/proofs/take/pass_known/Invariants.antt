-- The bindings looked at so far have keys that were given before.
use Rattle.std.proofs.Common.{length}
use Rattle.isort_find.specs.Private.LooksAtBindings.{PassesBindings}
use Rattle.isort_find.proofs.take.pass_known.Given as goal

abbrev pub invariant-bindings : goal.invariant-bindings
invariant-bindings l = PassesBindings l.cursor l.initial.pending l.pending

abbrev pub decreases-bindings : goal.decreases-bindings
decreases-bindings l = length l.pending.left
