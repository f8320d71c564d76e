-- Bytes were taken up to here, and nothing is ready.
use Rattle.std.proofs.Common.{◌≡◌, ◌+◌, ◌-◌, ◌≤◌, false, length}
use Rattle.isort_find.specs.Pieces.{fed_by, has_ready}
use Rattle.isort_find.specs.Position.{phase_in}
use Rattle.isort_find.specs.Private.PieceSteps.{Advances}
use Rattle.isort_find.specs.declared.walker.Phase.TheVariants as phase
use Rattle.isort_find.proofs.Fed.MoreLines.{left_to_take}
use Rattle.isort_find.proofs.pieces.PieceFinder.take_lines.Given as goal

abbrev pub invariant-lines : goal.invariant-lines
invariant-lines l = record {
  advances : Advances l.initial.self l.piece l.taken l.self;
  within : l.taken ≤ length l.piece;
  fed : fed_by l.self ≡ fed_by l.initial.self + l.taken;
  is_open : phase_in l.self.position ≡ phase.Open;
  none_ready : has_ready l.self ≡ false;
  open_yet : l.self.scanning.ended ≡ false;
  text : l.words ≡ l.piece;
}

abbrev pub decreases-lines : goal.decreases-lines
decreases-lines l = left_to_take (length l.piece - l.taken) l.self.scanning
