use Rattle.std.proofs.Common.{append_assoc}
use Rattle.isort_sort.proofs.layout.Layout.push_star.Goals as goal

pub returns : goal.returns
returns c =
    simp append_assoc (simp (append_assoc, c.in_ok-push_opening.ensures) at c.push_line_end.ensures)
