use Rattle.py_lines.proofs.Prelude.{◌∙◌, arith, length, replicate, sym, le_of_eq, length-take-le}
use Rattle.py_lines.proofs.SpecialBytes.Places.{filled, filled_feeds, filled_length}
use Rattle.py_lines.proofs.marks.Marks.of_last.Goals as goal

pub slice_bounds-block-end : goal.slice_bounds-block-end
slice_bounds-block-end c = omega (arith, c.requires)

pub slice_bounds-copy_from_slice-end : goal.slice_bounds-copy_from_slice-end
slice_bounds-copy_from_slice-end c = sym (length-take-le (length c.args.rest.now) (replicate 64 32) (omega (arith, c.requires)))

pub copy_from_slice-requires : goal.copy_from_slice-requires
copy_from_slice-requires c = length-take-le (length c.args.rest.now) (replicate 64 32) (omega (arith, c.requires))

pub slice_bounds-of-end : goal.slice_bounds-of-end
slice_bounds-of-end c = sym (filled_length c.args.rest.now c.copy_from_slice.new.self c.copy_from_slice.ensures.after c.requires)

pub of-requires : goal.of-requires
of-requires c = le_of_eq (sym (filled_length c.args.rest.now c.copy_from_slice.new.self c.copy_from_slice.ensures.after c.requires))

pub returns : goal.returns
returns c =
    let rest = c.args.rest.now in
    let block = c.copy_from_slice.new.self in
    let same = c.copy_from_slice.ensures.after in
    record {
      base = c.of.ensures.base;
      bits = λ k less. c.of.ensures.bits k less ∙ filled rest block k same c.requires less;
      feeds = λ k less. c.of.ensures.feeds k less ∙ filled_feeds rest block k same c.requires less;
    }
