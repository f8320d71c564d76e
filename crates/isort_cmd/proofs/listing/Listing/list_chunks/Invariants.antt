-- All that was read was fed, and what it settles was listed.
use Rattle.std.proofs.Common.{◌≡◌, ◌-◌, length}
use Rattle.isort_find.specs.Pieces.{fed_by}
use Rattle.isort_sort.specs.Metered.{inner_of, last_of}
use Rattle.isort_sort.specs.declared.metered.Last.TheVariants.{Fine}
use Rattle.isort_cmd.specs.Private.Stages.{listing_state, TakesInput}
use Rattle.isort_cmd.proofs.listing.Listing.list_chunks.Given as goal

abbrev pub invariant-chunks : goal.invariant-chunks
invariant-chunks g l = record {
  reader_fine : last_of l.reader ≡ Fine;
  room : length l.buffer ≡ 32768;
  takes : TakesInput (listing_state g.W.Write.contents l.initial.self l.initial.writer) l.max (g.R.Read.remaining (inner_of l.initial.reader)) (g.R.Read.remaining (inner_of l.reader)) (listing_state g.W.Write.contents l.self l.writer);
}

abbrev pub decreases-chunks : goal.decreases-chunks
decreases-chunks g l = l.max - fed_by l.self.finder
