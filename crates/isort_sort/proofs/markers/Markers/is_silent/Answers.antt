-- A line that ends where `isort:` has not begun doesn't hold it.
use Rattle.std.proofs.lemmas.Bool.{leb-true}
use Rattle.py_lines.specs.Lines.{line_in}
use Rattle.isort_sort.proofs.Rows.Markers.{stays_silent}
use Rattle.isort_sort.proofs.markers.Markers.is_silent.Goals as goal

pub returns-clause-silent : goal.returns-clause-silent
returns-clause-silent c = λ is.
    let line = line_in c.args.unit.now in
    stays_silent c.args.self.now line.text line.offset c.silent_up_to.result c.requires c.silent_up_to.ensures.silent (leb-true _ _ is)
