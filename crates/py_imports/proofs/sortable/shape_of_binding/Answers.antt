use Rattle.py_lines.specs.Lines.{line_in}
use Rattle.py_imports.proofs.SortableLemmas.{value_sorts}
use Rattle.py_imports.proofs.sortable.shape_of_binding.Goals as goal

pub returns-in-Some : goal.returns-in-Some
returns-in-Some c = value_sorts (line_in c.args.unit.now) c.in-Some.place c.in-Some.field-0-1 c.requires.0 c.in-Some.ensures c.requires.1 c.if-is_movable.ensures
