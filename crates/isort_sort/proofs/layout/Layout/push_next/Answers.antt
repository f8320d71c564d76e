use Rattle.std.proofs.Common.{append_assoc, append-nil}
use Rattle.std.proofs.lemmas.List.Concat.{flat_map-append}
use Rattle.isort_sort.proofs.layout.Layout.push_next.Goals as goal

pub returns : goal.returns
returns c =
    simp (append_assoc, flat_map-append, append-nil) (simp (append_assoc, c.in_ok-push_gap.ensures) at c.push_group.ensures)
