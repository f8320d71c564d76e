-- Nothing is read, so all lists of the statement are left.
use Rattle.std.proofs.Common.{◌∷◌, subst}
use Rattle.py_imports.specs.Grammar.{import_word, modules, AreItems, whole_module, IsImport}
use Rattle.py_imports.specs.Private.Lexemes.{unread_of}
use Rattle.py_imports.specs.Private.Items.{AreSameLists, ListsOf}
use Rattle.py_imports.proofs.ReaderLemmas.{same_import}
use Rattle.py_imports.proofs.items.ImportItems.new.Goals as goal

pub returns-in-Import : goal.returns-in-Import
returns-in-Import c =
    let rest = unread_of c.new-tokens.result in
    rw c.in-Import.is (subst (λ ts. AreSameLists (IsImport (import_word ∷ ts)) (ListsOf whole_module (AreItems modules rest))) c.new-tokens.ensures (same_import rest))
