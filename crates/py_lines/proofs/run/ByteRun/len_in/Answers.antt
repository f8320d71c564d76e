use Rattle.py_lines.proofs.Prelude.{prefix_len, ◌+◌, ◌≤◌, ap, arith, length, take_rest}
use Rattle.py_lines.specs.Private.Run.{is_in_run}
use Rattle.py_lines.proofs.Text.Lanes.{run_is, ends_within, sixteen_on}
use Rattle.py_lines.proofs.run.ByteRun.len_in.Goals as goal

pub returns-then-more-lt16 : goal.returns-then-more-lt16
returns-then-more-lt16 c =
    let room : c.loop-len.len + 16 ≤ length c.args.bytes.now = omega arith in
    let ends = ends_within (is_in_run c.args.self) c.args.bytes.now c.loop-len.len room (omega (arith, c.if-more-lt16.true, c.len_in_lanes-more.ensures)) in
    run_is _ c.args.bytes.now _ (omega (arith, c.loop-len.invariant.counted, c.len_in_lanes-more.ensures, ends))

pub returns : goal.returns
returns c =
    let rest = ap (prefix_len (is_in_run c.args.self)) (take_rest c.args.bytes.now c.loop-len.len) in
    run_is _ c.args.bytes.now _ (omega (arith, c.loop-len.invariant.counted, c.short_len_in.ensures.counted, rest))

pub overflow_add-result : goal.overflow_add-result
overflow_add-result c = omega (arith, c.well_formed)

pub overflow_add-len : goal.overflow_add-len
overflow_add-len c = omega (arith, c.well_formed)

pub loop-len-preserved : goal.loop-len-preserved
loop-len-preserved c =
    let room : c.loop-len.len + 16 ≤ length c.args.bytes.now = omega arith in
    record { within = room; counted = omega (arith, c.loop-len.invariant.counted, sixteen_on (is_in_run c.args.self) c.args.bytes.now c.loop-len.len room (omega (arith, c.if-more-lt16.false, c.len_in_lanes-more.ensures))) }
