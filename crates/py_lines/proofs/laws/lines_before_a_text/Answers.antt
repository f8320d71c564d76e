use Rattle.py_lines.proofs.LogicalLines.Cuts.{cut-append}
use Rattle.py_lines.proofs.Lexings.LinesBefore.{read_together, read_apart}
use Rattle.py_lines.proofs.laws.lines_before_a_text.Goals as goal

pub returns : goal.returns
returns c = record {
  together = read_together;
  apart = read_apart;
  cut = cut-append;
}
