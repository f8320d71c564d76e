use Rattle.py_lines.proofs.Prelude.{◌+◌, ap, ◌∙◌, arith}
use Rattle.py_lines.proofs.FieldScans.FrameArrays.{opened, Opened}
use Rattle.py_lines.proofs.frames.Frames.open.Goals.{Else-len-eq-MAX_DEPTH}
use Rattle.py_lines.proofs.frames.Frames.open.Goals as goal

-- one more is opened
more : (c : Else-len-eq-MAX_DEPTH) → Opened c.self.inside.frames c.self.inside.depth c.args.frame c.args.self.now c.self.inside.fields
more c = opened c.self.inside.frames c.self.inside.depth c.args.frame c.args.self.now c.self.inside.fields c.self.invariant c.self.view_is
    (λ full. c.if-len-eq-MAX_DEPTH.false (c.len.ensures.is ∙ full))

pub overflow_add-self-in-Field : goal.overflow_add-self-in-Field
overflow_add-self-in-Field c =
    let all = more (goal.at.overflow_add-self-in-Field c).Else-len-eq-MAX_DEPTH in
    omega (arith, all.few, all.short)

pub invariant_of-self : goal.invariant_of-self
invariant_of-self c =
    let all = more (goal.at.invariant_of-self c).Else-len-eq-MAX_DEPTH in
    (all.size, omega (arith, all.room), rw (all.is, c.in-Field.is) (ap (λ n. n + 1) all.counted))

pub invariant_of-self-in_default : goal.invariant_of-self-in_default
invariant_of-self-in_default c =
    let all = more (goal.at.invariant_of-self-in_default c).Else-len-eq-MAX_DEPTH in
    (all.size, omega (arith, all.room), rw (all.is, c.in_default.is) all.counted)

pub returns-in-Field : goal.returns-in-Field
returns-in-Field c =
    let all = more (goal.at.returns-in-Field c).Else-len-eq-MAX_DEPTH in
    (all.short, all.is)

pub returns-in_default : goal.returns-in_default
returns-in_default c =
    let all = more (goal.at.returns-in_default c).Else-len-eq-MAX_DEPTH in
    (all.short, all.is)

pub bounds-self-inside-self-inside : goal.bounds-self-inside-self-inside
bounds-self-inside-self-inside c = (more (goal.at.bounds-self-inside-self-inside c).Else-len-eq-MAX_DEPTH).room
