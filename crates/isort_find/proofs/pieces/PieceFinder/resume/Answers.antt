-- The walker goes on where the cursor stands, and the scanner is fed from there.
use Rattle.std.proofs.Common.{sym, subst}
use Rattle.isort_find.specs.Pieces.{GoesOnFrom, piece_finder_state}
use Rattle.isort_find.specs.Private.Walks.{WalkerState}
use Rattle.isort_find.proofs.Fed.Starts.{goes_on_from}
use Rattle.isort_find.proofs.pieces.PieceFinder.resume.Goals as goal

pub returns-in-Ok-clause-found : goal.returns-in-Ok-clause-found
returns-in-Ok-clause-found c =
    let start = c.start_of_line-start in
    subst (λ (w : WalkerState). GoesOnFrom c.args.cursor (piece_finder_state c.in-Ok.scanner w.position w.cursor)) (sym c.at-walker.ensures) (goes_on_from c.in-Ok.scanner c.args.cursor start.result.offset start.result.line c.max.result c.min-line.result start.ensures.offset start.ensures.line c.max.ensures c.min-line.ensures c.in-Ok.ensures.start c.in-Ok.ensures.scans)
