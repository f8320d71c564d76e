-- What was read is a prefix of the reader's bytes, and isn't too long yet.
use Rattle.std.proofs.Common.{◌≡◌, ◌+◌, ◌-◌, ◌≤◌, length, vec_len, vec_items}
use Rattle.std.specs.Io.KnownBytes.{Consumes}
use Rattle.isort_sort.specs.Metered.{inner_of, last_of}
use Rattle.isort_sort.specs.declared.metered.Last.TheVariants.{Fine}
use Rattle.isort_cmd.proofs.read.read_text.Given as goal

abbrev pub invariant-chunks : goal.invariant-chunks
invariant-chunks g l = record {
  fine : last_of l.reader ≡ Fine;
  within : vec_len l.text ≤ l.max;
  room : length l.chunk ≡ 16384;
  taken : Consumes (g.R.Read.remaining (inner_of l.initial.reader)) (g.R.Read.remaining (inner_of l.reader)) (vec_items l.text);
}

abbrev pub decreases-chunks : goal.decreases-chunks
decreases-chunks g l = l.max + 1 - vec_len l.text
