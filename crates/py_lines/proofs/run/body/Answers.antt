use Rattle.py_lines.proofs.Prelude.{arith}
use Rattle.py_lines.specs.Private.Run.{is_body_byte}
use Rattle.py_lines.proofs.Text.Lanes.{either, gives, none, same}
use Rattle.py_lines.proofs.run.body.Goals as goal

pub returns : goal.returns
unfolding is_body_byte
returns c =
    let ends = either _ _ _ (either _ _ _ c.equal-3.ensures c.equal-4.ensures) (either _ _ _ c.equal.ensures c.equal-2.ensures) in
    gives _ _ (same _ _ _ (none _ _ ends) (λ x. grind arith))
