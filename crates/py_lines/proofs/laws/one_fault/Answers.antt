use Rattle.py_lines.proofs.Faults.Verdict.{one_field_fault}
use Rattle.py_lines.proofs.Lexings.Existence.{read_or_faulty}
use Rattle.py_lines.proofs.laws.one_fault.Goals as goal

pub returns : goal.returns
returns c = record {
  some = read_or_faulty;
  one = one_field_fault;
}
