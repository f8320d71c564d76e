use Rattle.py_lines.proofs.Fields.Elsewhere.{reads_with, reads_without, balanced_with, balanced_without}
use Rattle.py_lines.proofs.Elsewhere.SameLexings.{lexed_with, lexed_without}
use Rattle.py_lines.proofs.laws.fields_change_nothing_elsewhere.Goals as goal

pub returns : goal.returns
returns c = record {
  read_with = reads_with;
  read_without = reads_without;
  balanced_with = balanced_with;
  balanced_without = balanced_without;
  lexed_with = lexed_with;
  lexed_without = lexed_without;
}
