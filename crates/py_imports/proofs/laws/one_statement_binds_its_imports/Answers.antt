-- The law is a lemma of proofs/OneStatement.
use Rattle.py_imports.proofs.OneStatement.{binds_its_imports}
use Rattle.py_imports.proofs.laws.one_statement_binds_its_imports.Goals as goal

pub returns : goal.returns
returns c = binds_its_imports
