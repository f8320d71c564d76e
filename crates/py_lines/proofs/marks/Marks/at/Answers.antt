use Rattle.py_lines.proofs.Prelude.{◌∙◌, sym, arith, rest_of}
use Rattle.py_lines.proofs.SpecialBytes.Places.{fed, has_marks, marked}
use Rattle.py_lines.proofs.marks.Marks.at.Goals as goal

pub returns-then-rest-ge64 : goal.returns-then-rest-ge64
returns-then-rest-ge64 c =
    let rest = rest_of c.args.text.now c.args.from in
    record {
      base = c.of.ensures.base;
      marks = has_marks c.args.text.now c.args.from c.of.result c.requires c.of.ensures.base
          (λ k less. c.of.ensures.bits k less ∙ sym (marked rest 0 k (omega arith) (omega (arith, less, c.if-rest-ge64.true))))
          (λ k less. c.of.ensures.feeds k less ∙ sym (fed rest k (omega (arith, less, c.if-rest-ge64.true))));
    }

pub returns-else-rest-ge64 : goal.returns-else-rest-ge64
returns-else-rest-ge64 c = record {
  base = c.of_last.ensures.base;
  marks = has_marks c.args.text.now c.args.from c.of_last.result c.requires c.of_last.ensures.base c.of_last.ensures.bits c.of_last.ensures.feeds;
}
