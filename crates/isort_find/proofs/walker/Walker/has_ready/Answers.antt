-- A line that was left unread is ready.
use Rattle.std.proofs.Common.{ap, sym, ◌∙◌}
use Rattle.isort_find.specs.Position.{ready_in}
use Rattle.isort_find.specs.Private.Walks.{WalkerState}
use Rattle.isort_find.proofs.walker.Walker.has_ready.Goals as goal

pub returns-in-Unread : goal.returns-in-Unread
returns-in-Unread c = sym (ap ready_in c.in-Unread.is) ∙ ap (λ (w : WalkerState). ready_in w.position) c.self.view_is
