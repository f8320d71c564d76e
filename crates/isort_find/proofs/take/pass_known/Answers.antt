-- One more binding has a key that was given.
use Rattle.isort_find.proofs.Keys.TakenBindings.{passed_known}
use Rattle.isort_find.proofs.take.pass_known.Goals as goal

pub bindings-preserved-else-not-knows : goal.bindings-preserved-else-not-knows
bindings-preserved-else-not-knows c = passed_known _ _ c.bindings.pending _ _ _ _ _ c.bindings.invariant c.in-Some.ensures c.knows.ensures c.if-not-knows.false c.take.ensures

pub bindings-preserved-else-not-knows-2 : goal.bindings-preserved-else-not-knows-2
bindings-preserved-else-not-knows-2 c = passed_known _ _ c.bindings.pending _ _ _ _ _ c.bindings.invariant c.in-Some.ensures c.knows.ensures c.if-not-knows.false c.take.ensures
