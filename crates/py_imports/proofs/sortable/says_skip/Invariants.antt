-- No comment so far says `skip`.
use Rattle.std.proofs.Common.{◌≡◌, drop}
use Rattle.std.specs.List.{list_any}
use Rattle.py_imports.specs.Shape.{says_skip}
use Rattle.py_imports.proofs.sortable.says_skip.Given as goal

abbrev pub invariant-tokens : goal.invariant-tokens
invariant-tokens l = list_any (says_skip l.unit.text.now) l.unit.tokens.now ≡ list_any (says_skip l.unit.text.now) (drop l.place l.unit.tokens.now)
