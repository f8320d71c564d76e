use Rattle.std.proofs.Common.{append_assoc}
use Rattle.isort_sort.proofs.layout.Layout.push_straight.Goals as goal

pub returns : goal.returns
returns c =
    simp append_assoc (simp (append_assoc, c.in_ok-push_str.ensures.bytes, c.in_ok-push_str-2.ensures.bytes, c.in_ok-push_str-3.ensures.bytes, c.in_ok-push_alias.ensures) at c.push_line_end.ensures)
