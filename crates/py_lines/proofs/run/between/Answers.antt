use Rattle.py_lines.proofs.Prelude.{leb, cond, zip2_splat_left}
use Rattle.py_lines.proofs.Text.Lanes.{both, compared, gives}
use Rattle.py_lines.proofs.run.between.Goals as goal

pub returns : goal.returns
returns c =
    let low = zip2_splat_left (λ a b. cond (leb a b) 255 0) c.args.low 16 c.args.lanes c.fits-lanes.0 in
    gives _ _ (both _ _ _ low (compared leb c.args.lanes c.args.high c.fits-lanes.0))
