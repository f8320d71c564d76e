use Rattle.py_lines.proofs.Prelude.{◌-◌, length}
use Rattle.py_lines.specs.Private.LineTokens.{HaveRead}
use Rattle.py_lines.proofs.line_state.LineState.read_line.Given as goal

abbrev pub invariant-pieces : goal.invariant-pieces
invariant-pieces l = HaveRead l.text l.end_len l.line l.start l.line_here l.tokens.items

abbrev pub decreases-pieces : goal.decreases-pieces
decreases-pieces l = length l.text - l.start
