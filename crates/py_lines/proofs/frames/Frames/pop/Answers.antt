use Rattle.py_lines.proofs.Prelude.{arith}
use Rattle.py_lines.proofs.FieldScans.FrameArrays.{Taken, taken}
use Rattle.py_lines.proofs.frames.Frames.pop.Goals.{In_ok-frame}
use Rattle.py_lines.proofs.frames.Frames.pop.Goals as goal

-- what is left without it
less : (c : In_ok-frame) → Taken c.self.inside.frames c.self.inside.depth c.in_ok-frame.frame c.args.self.now c.self.inside.fields
less c = taken c.self.inside.frames c.self.inside.depth c.in_ok-frame.frame c.args.self.now c.self.inside.fields c.self.invariant c.self.view_is c.in_ok-frame.ensures

pub invariant_of-self : goal.invariant_of-self
invariant_of-self c =
    let all = less (goal.at.invariant_of-self c).In_ok-frame in
    let counted = rw c.in-Field.is at all.counted in
    (c.self.invariant.0, all.room, omega (arith, counted))

pub invariant_of-self-in_default : goal.invariant_of-self-in_default
invariant_of-self-in_default c =
    let all = less (goal.at.invariant_of-self-in_default c).In_ok-frame in
    (c.self.invariant.0, all.room, rw c.in_default.is at all.counted)

pub returns-in-Field : goal.returns-in-Field
returns-in-Field c = (less (goal.at.returns-in-Field c).In_ok-frame).is

pub returns-in_default : goal.returns-in_default
returns-in_default c = (less (goal.at.returns-in_default c).In_ok-frame).is

pub overflow_sub-self-in-Field : goal.overflow_sub-self-in-Field
overflow_sub-self-in-Field c = grind arith

pub overflow_sub-self : goal.overflow_sub-self
overflow_sub-self c = grind arith
