-- A binding has a new key, or one that was given.
use Rattle.std.proofs.Common.{arith}
use Rattle.isort_find.proofs.Keys.TakenBindings.{takes_known, takes_fewer, takes_new}
use Rattle.isort_find.proofs.take.take_new.Goals as goal

pub returns-then-is_new : goal.returns-then-is_new
returns-then-is_new c = takes_new _ c.bindings.cursor c.admit.new.self _ _ c.bindings.pending _ _ _ _ _ _ _ c.bindings.invariant.passes c.bindings.invariant.cursor c.in-Some.ensures c.in_ok-is_new.ensures.ok c.if-is_new.true c.take-taken.ensures c.give.ensures c.start.ensures c.taken.ensures

pub bindings-preserved-else-is_new : goal.bindings-preserved-else-is_new
bindings-preserved-else-is_new c =
    let known = takes_known _ c.bindings.cursor c.admit.new.self _ c.bindings.pending c.take-taken.new.self _ _ _ _ c.bindings.invariant.passes c.bindings.invariant.cursor c.in-Some.ensures c.in_ok-is_new.ensures.ok c.if-is_new.false c.take-taken.ensures in
    record { passes = known.passes; cursor = known.cursor_is }

pub bindings-preserved-else-is_new-2 : goal.bindings-preserved-else-is_new-2
bindings-preserved-else-is_new-2 c =
    let known = takes_known _ c.bindings.cursor c.admit.new.self _ c.bindings.pending c.take-taken.new.self _ _ _ _ c.bindings.invariant.passes c.bindings.invariant.cursor c.in-Some.ensures c.in_ok-is_new.ensures.ok c.if-is_new.false c.take-taken.ensures in
    record { passes = known.passes; cursor = known.cursor_is }

pub bindings-smaller : goal.bindings-smaller
bindings-smaller c =
    let fewer = takes_fewer c.bindings.pending c.take-taken.new.self _ _ _ c.in-Some.ensures c.take-taken.ensures in
    omega (arith, fewer)
