-- The statements that start before this token were bound.
use Rattle.std.proofs.Common.{◌≤◌}
use Rattle.py_lines.specs.Lines.{line_in}
use Rattle.py_imports.proofs.BindingLemmas.{BindsSoFar}
use Rattle.py_imports.proofs.bindings.bind_statements.Given as goal

abbrev pub invariant-tokens : goal.invariant-tokens
invariant-tokens l = record {
  shallow : l.depth ≤ l.place;
  so_far : BindsSoFar (line_in l.unit) l.place l.depth l.starts l.bindings.items;
}
