use Rattle.isort_sort.proofs.Readings.LinesRead.{found_in}
use Rattle.isort_sort.proofs.read.LineReader.finish.Goals as goal

pub returns : goal.returns
returns c = λ text read. found_in text read.lines c.args.self _ c.if-self.false c.in_ok-finish.ensures read.so_far read.accepted
