use Rattle.std.proofs.Common.{append_assoc}
use Rattle.isort_sort.proofs.Layouts.Writing.{spaces}
use Rattle.isort_sort.proofs.wrapping.Wrap.push_break.Goals as goal

pub returns : goal.returns
returns c =
    simp (append_assoc, spaces, c.in_ok-push_str.ensures.bytes, c.in_ok-push_str-2.ensures.bytes, c.in_ok-push_str-3.ensures.bytes) at c.push_times.ensures
