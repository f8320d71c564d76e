use Rattle.std.proofs.lemmas.Grind.{common_steps}
use Rattle.py_lines.proofs.Prelude.{take_rest, arith}
use Rattle.py_lines.proofs.Text.LineEnds.{cut_ends}
use Rattle.py_lines.proofs.line_ends.line_ends_up_to.Goals as goal

pub overflow_sub-result : goal.overflow_sub-result
overflow_sub-result c =
    let cut = cut_ends c.args.to c.args.bytes.now c.requires in
    rw (c.ends_with.ensures.value, c.starts_with.ensures.value, take_rest c.args.bytes.now c.args.to, c.line_ends.ensures.bytes) cut.0

pub returns : goal.returns
returns c =
    let cut = cut_ends c.args.to c.args.bytes.now c.requires in
    rw (c.ends_with.ensures.value, c.starts_with.ensures.value, take_rest c.args.bytes.now c.args.to, c.line_ends.ensures.bytes) cut.1

pub slice_bounds-line_ends-end : goal.slice_bounds-line_ends-end
slice_bounds-line_ends-end c = grind (arith, common_steps)
