-- Out of memory is told by a line.
use Rattle.isort_cmd.proofs.ParseLemmas.{line_of_no_memory}
use Rattle.isort_cmd.proofs.command_line.refusal.Goals as goal

pub returns-then-eq-clause-line : goal.returns-then-eq-clause-line
returns-then-eq-clause-line c = line_of_no_memory

pub returns-in-Err-clause-line : goal.returns-in-Err-clause-line
returns-in-Err-clause-line c = line_of_no_memory
