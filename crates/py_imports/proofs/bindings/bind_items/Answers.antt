-- The items passed are bound, and those that are left go after them.
use Rattle.py_imports.proofs.BindingLemmas.{one_bound}
use Rattle.py_imports.proofs.bindings.bind_items.Goals as goal

pub items-preserved : goal.items-preserved
items-preserved c =
    let first = rw c.in-Ok-Some.field-0-is at c.in-Ok-Some.ensures.item in
    one_bound _ _ _ c.args.head _ _ _ _ c.items.invariant first c.in_ok-push_binding-in-Ok-Some.ensures
