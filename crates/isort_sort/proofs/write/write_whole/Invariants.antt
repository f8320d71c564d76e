-- What was written is a prefix of the bytes, and `rest` is what follows it.
use Rattle.std.proofs.Common.{◌≡◌, ◌++◌, ℕ, List, length}
use Rattle.std.specs.Io.KnownBytes.{Appends}
use Rattle.isort_sort.specs.Metered.{inner_of, last_of}
use Rattle.isort_sort.specs.declared.metered.Last.TheVariants.{Fine}
use Rattle.isort_sort.proofs.write.write_whole.Given as goal

abbrev pub invariant-loop-rest : goal.invariant-loop-rest
invariant-loop-rest g l = (prefix : List ℕ) × (last_of l.writer ≡ Fine) × (prefix ++ l.rest ≡ l.bytes) × Appends (g.W.Write.contents (inner_of l.initial.writer)) (g.W.Write.contents (inner_of l.writer)) prefix

abbrev pub decreases-loop-rest : goal.decreases-loop-rest
decreases-loop-rest g l = length l.rest
