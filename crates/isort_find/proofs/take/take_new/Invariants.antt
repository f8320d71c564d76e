-- The bindings looked at so far have keys that were given before.
use Rattle.std.proofs.Common.{◌≡◌, length}
use Rattle.isort_find.specs.Private.LooksAtBindings.{PassesBindings}
use Rattle.isort_find.proofs.take.take_new.Given as goal

abbrev pub invariant-bindings : goal.invariant-bindings
invariant-bindings l = record {
  passes : PassesBindings l.initial.cursor l.initial.pending l.pending;
  cursor : l.cursor ≡ l.initial.cursor;
}

abbrev pub decreases-bindings : goal.decreases-bindings
decreases-bindings l = length l.pending.left
