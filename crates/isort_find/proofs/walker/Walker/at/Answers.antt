-- So many bindings of the next line were looked at.
use Rattle.std.proofs.Common.{ℕ, ap}
use Rattle.isort_find.specs.Private.Walks.{walker_state}
use Rattle.isort_find.specs.declared.walker.Position.TheVariants as position
use Rattle.isort_find.proofs.walker.Walker.at.Goals as goal

pub returns : goal.returns
returns c = ap (λ (n : ℕ). walker_state (position.Between n) c.args.cursor) c.taken.ensures
