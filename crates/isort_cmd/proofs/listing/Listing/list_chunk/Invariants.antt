-- What the bytes taken had ready was listed.
use Rattle.std.proofs.Common.{length}
use Rattle.isort_cmd.specs.Private.Stages.{listing_state}
use Rattle.isort_cmd.proofs.AmidLemmas.{IsAmid}
use Rattle.isort_cmd.proofs.listing.Listing.list_chunk.Given as goal

abbrev pub invariant-lines : goal.invariant-lines
invariant-lines g l = IsAmid l.chunk l.rest (listing_state g.W.Write.contents l.initial.self l.initial.writer) (listing_state g.W.Write.contents l.self l.writer)

abbrev pub decreases-lines : goal.decreases-lines
decreases-lines g l = length l.rest
