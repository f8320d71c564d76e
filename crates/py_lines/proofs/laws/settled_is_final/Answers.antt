use Rattle.py_lines.proofs.Lexings.DecidedFaults.{decided_fault, decided_lexing}
use Rattle.py_lines.proofs.Lexings.Prefixes.{one_settled, some_settled}
use Rattle.py_lines.proofs.Lexings.FirstLines.{settled_begin, settled_before_settled, settled_begin_first}
use Rattle.py_lines.proofs.laws.settled_is_final.Goals as goal

pub returns-clause-some : goal.returns-clause-some
returns-clause-some c = some_settled

pub returns-clause-one : goal.returns-clause-one
returns-clause-one c = one_settled

pub returns-clause-lines : goal.returns-clause-lines
returns-clause-lines c = settled_begin

pub returns-clause-all : goal.returns-clause-all
returns-clause-all c = decided_lexing

pub returns-clause-fault : goal.returns-clause-fault
returns-clause-fault c = decided_fault

pub returns-clause-grow : goal.returns-clause-grow
returns-clause-grow c = settled_before_settled

pub returns-clause-within : goal.returns-clause-within
returns-clause-within c = settled_begin_first
