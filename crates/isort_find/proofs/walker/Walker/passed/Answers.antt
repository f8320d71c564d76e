-- Text was passed over up to this byte.
use Rattle.std.proofs.Common.{ap, sym, ◌∙◌}
use Rattle.isort_find.specs.Private.Walks.{WalkerState, passed_in}
use Rattle.isort_find.proofs.walker.Walker.passed.Goals as goal

pub returns-in-End : goal.returns-in-End
returns-in-End c = sym (ap passed_in c.in-End.is) ∙ ap (λ (w : WalkerState). passed_in w.position) c.self.view_is
