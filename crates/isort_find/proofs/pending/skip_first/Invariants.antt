-- So many bindings were skipped.
use Rattle.std.proofs.Common.{◌≡◌, drop}
use Rattle.isort_find.proofs.pending.skip_first.Given as goal

abbrev pub invariant-loop : goal.invariant-loop
invariant-loop l = l.bindings.items ≡ drop l.counter l.initial.bindings.items
