use Rattle.isort_sort.proofs.Finding.OneBlocks.{one_cut_at_blocks}
use Rattle.isort_sort.proofs.Finding.SomeBlocks.{some_cut_at_blocks}
use Rattle.isort_sort.proofs.laws.one_cut_at_blocks.Goals as goal

pub returns : goal.returns
returns c = record { some = some_cut_at_blocks; one = one_cut_at_blocks }
