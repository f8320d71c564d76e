-- Nothing was given.
use Rattle.std.proofs.Common.{[], sym, subst}
use Rattle.isort_find.specs.Finder.{HasFound, finder_state}
use Rattle.isort_find.specs.Private.Walks.{WalkerState}
use Rattle.isort_find.proofs.Wholes.ReadLine.{goes_from_start}
use Rattle.isort_find.proofs.finder.Finder.new.Goals as goal

pub returns-clause-found : goal.returns-clause-found
returns-clause-found c = subst (λ (w : WalkerState). HasFound (finder_state c.in-Ok.lines w.position w.cursor) []) (sym c.at-walker.ensures) (goes_from_start c.args.text.now c.args.options c.start.result c.in-Ok.lines c.start.ensures c.in-Ok.ensures.start c.in-Ok.ensures.given)
