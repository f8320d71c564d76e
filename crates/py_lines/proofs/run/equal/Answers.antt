use Rattle.py_lines.proofs.Prelude.{eqb}
use Rattle.py_lines.proofs.Text.Lanes.{compared, gives}
use Rattle.py_lines.proofs.run.equal.Goals as goal

pub returns : goal.returns
returns c = gives _ _ (compared eqb c.args.lanes c.args.byte c.fits-lanes.0)
