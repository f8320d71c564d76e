use Rattle.std.proofs.Common.{refl}
use Rattle.py_lines.specs.Lines.{line_in}
use Rattle.isort_sort.proofs.Readings.LinesRead.{beginning, still_before}
use Rattle.isort_sort.proofs.read.LineReader.begin.Goals as goal

pub returns-then-not-self-clause-before : goal.returns-then-not-self-clause-before
returns-then-not-self-clause-before c = λ lines h. beginning lines (line_in c.args.unit.now) c.args.self.now _ c.mark_len.result c.if-not-self.true c.mark_len.ensures c.new.ensures refl refl refl h

pub returns-else-not-self-clause-before : goal.returns-else-not-self-clause-before
returns-else-not-self-clause-before c = λ lines h. still_before lines (line_in c.args.unit.now) c.args.self.now c.if-not-self.false h
