-- The reader gave nothing yet, and each try counts one interruption more.
use Rattle.std.proofs.Common.{◌≡◌, ◌-◌, ◌<◌, length}
use Rattle.std.specs.Io.KnownBytes.{Keeps}
use Rattle.isort_sort.specs.Metered.{inner_of, last_of, interruptions}
use Rattle.isort_cmd.proofs.read.read_chunk.Given as goal

abbrev pub invariant-tries : goal.invariant-tries
invariant-tries g l = record {
  same_length : length l.chunk ≡ length l.initial.chunk;
  few : interruptions (last_of l.reader) < 1000;
  kept : Keeps (g.R.Read.remaining (inner_of l.initial.reader)) (g.R.Read.remaining (inner_of l.reader));
}

abbrev pub decreases-tries : goal.decreases-tries
decreases-tries g l = 1000 - interruptions (last_of l.reader)
