-- The cursor is the walker's.
use Rattle.std.proofs.Common.{ap}
use Rattle.isort_find.specs.Private.Walks.{WalkerState}
use Rattle.isort_find.proofs.walker.Walker.stop.Goals as goal

pub returns : goal.returns
returns c = ap (λ (w : WalkerState). w.cursor) c.self.view_is
