-- Both tests pass, or the first one fails.
use Rattle.std.proofs.Common.{refl}
use Rattle.std.proofs.lemmas.Bool.{le-leb, lt-leb}
use Rattle.isort_settings.proofs.limits.Limits+u32.contain.Goals as goal

pub returns-then-self-n : goal.returns-then-self-n
returns-then-self-n c = rw (le-leb c.args.self.least c.args.n c.if-self-n.true) refl

pub returns-else-self-n : goal.returns-else-self-n
returns-else-self-n c = rw (lt-leb c.args.self.least c.args.n c.if-self-n.false) refl
