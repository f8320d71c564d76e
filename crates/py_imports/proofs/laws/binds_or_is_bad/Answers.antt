-- The law is a lemma each of proofs/DecidingLemmas, OneListLemmas and OneFaultLemmas.
use Rattle.py_imports.proofs.DecidingLemmas.{some_list_or_fault}
use Rattle.py_imports.proofs.OneFaultLemmas.{one_list, one_bad_fault, not_both}
use Rattle.py_imports.proofs.laws.binds_or_is_bad.Goals as goal

pub returns : goal.returns
returns c = record { some = some_list_or_fault; one_list = one_list; one_fault = one_bad_fault; not_both = not_both }
