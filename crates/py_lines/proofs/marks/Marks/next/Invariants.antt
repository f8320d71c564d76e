use Rattle.py_lines.proofs.Prelude.{ℕ, ◌-◌, ◌≤◌, length}
use Rattle.py_lines.specs.Private.Marks.{HasMarks}
use Rattle.py_lines.proofs.SpecialBytes.Places.{HasPassed}
use Rattle.py_lines.proofs.marks.Marks.next.Given as goal

abbrev pub invariant-blocks-2 : goal.invariant-blocks-2
invariant-blocks-2 l = (l.self.base ≤ length l.text) × ((from : ℕ) → HasMarks l.text from l.fn.self → HasPassed l.text from l.self)

abbrev pub decreases-blocks-2 : goal.decreases-blocks-2
decreases-blocks-2 l = length l.text - l.self.base
