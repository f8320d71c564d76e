-- The law is a lemma of proofs/ImportedNames.
use Rattle.py_imports.proofs.ImportedNames.{imported_named}
use Rattle.py_imports.proofs.laws.imports_of_words_are_named.Goals as goal

pub returns : goal.returns
returns c = imported_named
