-- The groups so far, with those that are made of the rest, are made of all.
use Rattle.std.proofs.Common.{List, ◌++◌}
use Rattle.isort_settings.specs.Values.{values}
use Rattle.isort_sort.specs.Private.Gathered.{AreMade}
use Rattle.isort_sort.specs.declared.group.Group as code
use Rattle.isort_sort.proofs.group.groups_of.Given as goal

abbrev pub invariant-loop-statement : goal.invariant-loop-statement
invariant-loop-statement l = (others : List code.Group) → AreMade (values l.settings) l.statement-iterator others → AreMade (values l.settings) l.fn.statements.entries (l.groups.items ++ others)
