use Rattle.py_lines.proofs.Prelude.{◌-◌, ◌+◌, ◌≤◌, ℕ}
use Rattle.py_lines.specs.Private.LineTokens.{HaveReadAnyway}
use Rattle.py_lines.proofs.simple_line.read_up_to.Given as goal

abbrev pub invariant-pieces : goal.invariant-pieces
invariant-pieces l =
    (l.fn.start ≤ l.at) × (l.line_here + l.fn.start ≤ l.line + l.at)
    × ((first : ℕ) → HaveReadAnyway l.bytes first l.fn.start l.line l.fn.tokens.items → HaveReadAnyway l.bytes first l.at l.line_here l.tokens.items)

abbrev pub decreases-pieces : goal.decreases-pieces
decreases-pieces l = l.to - l.at
