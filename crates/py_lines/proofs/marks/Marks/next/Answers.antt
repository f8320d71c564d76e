use Rattle.py_lines.proofs.Prelude.{◌≡◌, ◌∙◌, refl, sym, ap, arith, rules}
use Rattle.py_lines.proofs.SpecialBytes.Places.{finds_end, finds_lowest, passes_block}
use Rattle.py_lines.proofs.marks.Marks.next.Goals as goal

pub blocks-2-preserved : goal.blocks-2-preserved
blocks-2-preserved c =
    let loop = c.blocks-2 in
    let on = c.blocks-2-test.ensures in
    ((on.base refl).1, λ from has. passes_block c.args.text.now from loop.self c.advance.new.self (loop.invariant.1 from has) on.marks)

pub returns-then-self-eq0 : goal.returns-then-self-eq0
returns-then-self-eq0 c from has =
    let (same, last) = c.blocks-2-test.ensures.marks in
    let none : c.blocks-2.self.bits ≡ 0 = ap (λ m. m.bits) (sym same) ∙ c.if-self-eq0.true in
    rw same (finds_end c.args.text.now from c.blocks-2.self (c.blocks-2.invariant.1 from has) none (last none))

pub returns : goal.returns
returns c from has =
    finds_lowest c.args.text.now from c.advance.new.self (rw c.blocks-2-test.ensures.marks.0 (c.blocks-2.invariant.1 from has))
    (omega (arith, c.if-self-eq0.false)) (search rules)

pub blocks-2-init : goal.blocks-2-init
blocks-2-init c = grind arith

pub overflow_add-place : goal.overflow_add-place
overflow_add-place c = grind arith
