-- The fault is the one that was met.
use Rattle.std.proofs.Common.{ap, sym, ◌∙◌}
use Rattle.isort_find.specs.Position.{phase_in}
use Rattle.isort_find.specs.Private.Walks.{WalkerState}
use Rattle.isort_find.proofs.walker.Walker.phase.Goals as goal

pub returns-in-Fault : goal.returns-in-Fault
returns-in-Fault c = sym (ap phase_in c.in-Fault.is) ∙ ap (λ (w : WalkerState). phase_in w.position) c.self.view_is
