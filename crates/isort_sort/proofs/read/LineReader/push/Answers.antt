use Rattle.std.proofs.Common.{refl}
use Rattle.py_lines.specs.Lines.{line_in}
use Rattle.isort_sort.proofs.Readings.LinesRead.{read_on}
use Rattle.isort_sort.proofs.read.LineReader.push.Goals as goal

pub returns : goal.returns
returns c = λ lines stands h.
    let line = line_in c.args.unit.now in
    read_on lines line c.begin.new.self _ c.in_ok-find_line.ensures refl (c.is_off_after-self.ensures line c.requires.actions) c.push.ensures stands (c.begin.ensures.before lines h)
