-- The law is a lemma of proofs/OneListLemmas.
use Rattle.py_imports.proofs.OneListLemmas.{one_import}
use Rattle.py_imports.proofs.laws.binds_one_list.Goals as goal

pub returns : goal.returns
returns c = one_import
