use Rattle.std.proofs.lemmas.Grind.{common_steps}
use Rattle.py_lines.proofs.Prelude.{arith, length, replicate, length-take-le}
use Rattle.py_lines.specs.Private.Run.{is_in_run}
use Rattle.py_lines.proofs.Text.Lanes.{shorter_run}
use Rattle.py_lines.proofs.run.ByteRun.short_len_in.Goals as goal

pub copy_from_slice-requires : goal.copy_from_slice-requires
copy_from_slice-requires c = length-take-le (length c.args.bytes.now) (replicate 16 0) (omega (arith, c.requires))

pub returns : goal.returns
returns c = record {
  within = omega (arith, c.min.ensures);
  counted = shorter_run (is_in_run c.args.self) c.args.bytes.now _ _ _ c.min.result c.copy_from_slice.ensures.after c.len_in_lanes.ensures c.min.ensures;
}

pub slice_bounds-copy_from_slice-end : goal.slice_bounds-copy_from_slice-end
slice_bounds-copy_from_slice-end c = grind (arith, common_steps)
