-- The items passed begin each list of the statement.
use Rattle.py_imports.proofs.ReaderLemmas.{one_more_read}
use Rattle.py_imports.proofs.items.ImportItems.is_in_grammar.Goals as goal

pub items-preserved : goal.items-preserved
items-preserved c =
    let h = rw c.in-Ok-Some.field-0-is at c.in-Ok-Some.ensures.item in
    (_, one_more_read _ _ _ c.items.invariant.0 _ c.items.invariant.1 h)
