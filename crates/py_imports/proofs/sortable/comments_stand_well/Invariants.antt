-- The comments so far stand well.
use Rattle.py_imports.proofs.ShapeLemmas.{StandWell}
use Rattle.py_imports.proofs.sortable.comments_stand_well.Given as goal

abbrev pub invariant-tokens : goal.invariant-tokens
invariant-tokens l = StandWell l.tokens l.place l.after_opening
