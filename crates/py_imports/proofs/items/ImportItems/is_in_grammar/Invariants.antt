-- These imports were read so far.
use Rattle.std.proofs.Common.{List}
use Rattle.py_imports.specs.Grammar.{Imported}
use Rattle.py_imports.specs.Private.Items.{AreLeft, most_left}
use Rattle.py_imports.proofs.ReaderLemmas.{AreRead}
use Rattle.py_imports.proofs.items.ImportItems.is_in_grammar.Given as goal

abbrev pub invariant-items : goal.invariant-items
invariant-items l = (done : List Imported) × AreRead (AreLeft l.initial.self) (AreLeft l.self) done

abbrev pub decreases-items : goal.decreases-items
decreases-items l = most_left l.self
