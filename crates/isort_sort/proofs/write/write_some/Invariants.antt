-- The writer took nothing yet, and each try counts one interruption more.
use Rattle.std.proofs.Common.{◌-◌, ◌<◌}
use Rattle.std.specs.Io.KnownBytes.{Keeps}
use Rattle.isort_sort.specs.Metered.{inner_of, last_of, interruptions}
use Rattle.isort_sort.proofs.write.write_some.Given as goal

abbrev pub invariant-tries : goal.invariant-tries
invariant-tries g l = record {
  few : interruptions (last_of l.writer) < 1000;
  kept : Keeps (g.W.Write.contents (inner_of l.initial.writer)) (g.W.Write.contents (inner_of l.writer));
}

abbrev pub decreases-tries : goal.decreases-tries
decreases-tries g l = 1000 - interruptions (last_of l.writer)
