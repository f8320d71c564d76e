-- What was given so far was listed, and `some` tells whether there was something.
use Rattle.isort_find.specs.Pieces.{due_by}
use Rattle.isort_sort.specs.Metered.{inner_of}
use Rattle.isort_cmd.specs.Private.Stages.{listing_state, KeepsListed, TellsWritten}
use Rattle.isort_cmd.proofs.listing.Listing.list_ready.Given as goal

abbrev pub invariant-imports : goal.invariant-imports
invariant-imports g l = record {
  keeps : KeepsListed (listing_state g.W.Write.contents l.initial.self l.initial.writer) (listing_state g.W.Write.contents l.self l.writer);
  told : TellsWritten l.some (g.W.Write.contents (inner_of l.initial.writer)) (g.W.Write.contents (inner_of l.writer));
}

abbrev pub decreases-imports : goal.decreases-imports
decreases-imports g l = due_by l.self.finder
