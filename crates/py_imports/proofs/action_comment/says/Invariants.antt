-- The action begins at no place that was passed.
use Rattle.std.proofs.Common.{◌≡◌, drop}
use Rattle.std.specs.List.{list_any}
use Rattle.py_imports.specs.ActionComment.{begins_with_action, tails}
use Rattle.py_imports.proofs.action_comment.says.Given as goal

abbrev pub invariant-places : goal.invariant-places
invariant-places l = list_any (begins_with_action l.action) (tails l.bytes) ≡ list_any (begins_with_action l.action) (tails (drop l.place l.bytes))
