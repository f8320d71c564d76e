-- The pieces so far were written.
use Rattle.std.proofs.Common.{◌≡◌, take}
use Rattle.std.specs.Io.KnownBytes.{Appends}
use Rattle.isort_sort.specs.Metered.{inner_of, last_of}
use Rattle.isort_sort.specs.Private.Parts.{bytes_of}
use Rattle.isort_sort.specs.declared.metered.Last.TheVariants.{Fine}
use Rattle.isort_sort.proofs.sorted_text.SortedText.write_to.Given as goal

abbrev pub invariant-pieces : goal.invariant-pieces
invariant-pieces g l = record {
  fine : last_of l.writer ≡ Fine;
  written : Appends (g.W.Write.contents (inner_of l.initial.writer)) (g.W.Write.contents (inner_of l.writer)) (bytes_of (take l.piece-index l.piece-items));
}
