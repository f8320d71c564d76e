use Rattle.std.proofs.Common.{arith}
use Rattle.std.proofs.lemmas.Str.{IsUtf8-had}
use Rattle.isort_sort.proofs.Layouts.Writing.{split_after}
use Rattle.isort_sort.proofs.layout.Layout.push_names.Goals as goal

pub truncate-requires : goal.truncate-requires
truncate-requires c =
    λ _. split_after _ _ _ c.len-start.result (IsUtf8-had _ c.args.out.now.ok) (IsUtf8-had _ c.push_one_line.new.out.ok) c.in_ok-push_one_line.ensures (omega (arith, c.args.out.now.bytes.ok.0))
