use Rattle.py_lines.specs.Lines.{line_in}
use Rattle.isort_sort.proofs.Rows.Silence.{silent_actions}
use Rattle.isort_sort.proofs.actions.Actions.of.Goals as goal

pub returns-then-is_silent-clause-actions : goal.returns-then-is_silent-clause-actions
returns-then-is_silent-clause-actions c = rw c.none.ensures (silent_actions (line_in c.args.unit.now) (c.is_silent.ensures.silent c.if-is_silent.true))
