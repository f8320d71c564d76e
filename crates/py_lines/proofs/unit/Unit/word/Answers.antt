use Rattle.py_lines.proofs.Prelude.{arith}
use Rattle.py_lines.proofs.LogicalLines.TokenPlaces.{lies_at}
use Rattle.py_lines.proofs.unit.Unit.word.Goals as goal

pub range-requires : goal.range-requires
range-requires c =
    let lies = lies_at _ _ _ _ c.args.self.now.tokens_lie_in (omega (arith, c.requires)) in
    record { start_le_end = lies.ordered; start_boundary = λ positive. lies.from; end_boundary = lies.to }

pub range-requires-text-s : goal.range-requires-text-s
range-requires-text-s c = grind arith
