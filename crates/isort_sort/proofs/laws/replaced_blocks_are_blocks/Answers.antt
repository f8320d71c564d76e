use Rattle.isort_sort.proofs.Finding.Replaced.{blocks_again}
use Rattle.isort_sort.proofs.laws.replaced_blocks_are_blocks.Goals as goal

pub returns : goal.returns
returns c = blocks_again
