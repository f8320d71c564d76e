use Rattle.std.proofs.Common.{append_assoc}
use Rattle.isort_sort.proofs.layout.Layout.push_in_brackets.Goals as goal

pub returns : goal.returns
returns c =
    simp append_assoc (simp (append_assoc, c.in_ok-push_opening.ensures, c.in_ok-push_items.ensures, c.line_room.ensures, c.bracket_width.ensures, c.in_ok-push_trailing_comma.ensures, c.in_ok-push_str.ensures.bytes) at c.push_line_end.ensures)
