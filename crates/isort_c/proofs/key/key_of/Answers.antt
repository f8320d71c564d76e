use native.Mathlib.Omega.{arith}
use Rattle.isort_c.proofs.KeyLemmas.{no_key}
use Rattle.isort_c.proofs.key.key_of.Goals as goal

pub returns-in_default : goal.returns-in_default
returns-in_default c = no_key c.args.number (λ some. omega arith)
