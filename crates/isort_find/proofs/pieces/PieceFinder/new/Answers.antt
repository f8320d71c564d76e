-- Nothing was given, settled or decided.
use Rattle.std.proofs.Common.{[], sym, subst}
use Rattle.isort_find.specs.Pieces.{HasFoundIn, AreAllSettled, IsUndecided, piece_finder_state}
use Rattle.isort_find.specs.Private.Walks.{WalkerState}
use Rattle.isort_find.proofs.Fed.Starts.{begins_pieces}
use Rattle.isort_find.proofs.Fed.NothingFed.{new_settled, new_undecided}
use Rattle.isort_find.proofs.pieces.PieceFinder.new.Goals as goal

pub returns-clause-found : goal.returns-clause-found
returns-clause-found c = λ text. subst (λ (w : WalkerState). HasFoundIn (piece_finder_state c.in-Ok.scanner w.position w.cursor) text []) (sym c.at-walker.ensures) (begins_pieces c.in-Ok.scanner c.args.options c.start.result c.in-Ok.ensures.start c.in-Ok.ensures.scans c.start.ensures text)

pub returns-clause-settled : goal.returns-clause-settled
returns-clause-settled c =
    let known = c.known_laws.ensures in
    λ text. subst (λ (w : WalkerState). AreAllSettled (piece_finder_state c.in-Ok.scanner w.position w.cursor) text []) (sym c.at-walker.ensures) (new_settled known.settled known.one_settled known.ascent c.in-Ok.scanner c.args.options c.start.result c.in-Ok.ensures.start c.in-Ok.ensures.scans c.start.ensures text)

pub returns-clause-undecided : goal.returns-clause-undecided
returns-clause-undecided c =
    let known = c.known_laws.ensures in
    λ text. subst (λ (w : WalkerState). IsUndecided (piece_finder_state c.in-Ok.scanner w.position w.cursor) text) (sym c.at-walker.ensures) (new_undecided known.settled known.one_settled known.ascent c.in-Ok.scanner c.args.options c.start.result c.in-Ok.ensures.start c.in-Ok.ensures.scans c.start.ensures text)
