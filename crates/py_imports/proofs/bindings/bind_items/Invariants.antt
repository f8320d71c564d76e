-- The items that were read so far were bound.
use Rattle.py_imports.specs.Private.Items.{AreLeft, most_left}
use Rattle.py_imports.proofs.BindingLemmas.{BoundSoFar}
use Rattle.py_imports.proofs.bindings.bind_items.Given as goal

abbrev pub invariant-items : goal.invariant-items
invariant-items l = BoundSoFar (AreLeft l.initial.items) (AreLeft l.items) l.head l.initial.bindings.items l.bindings.items

abbrev pub decreases-items : goal.decreases-items
decreases-items l = most_left l.items
