use Rattle.isort_sort.proofs.SortedTexts.BlockSpans.{blocks_stand_apart, only_blocks_are_replaced}
use Rattle.isort_sort.proofs.laws.only_blocks_change.Goals as goal

pub returns : goal.returns
returns c = record { apart = blocks_stand_apart; rest = only_blocks_are_replaced c.one_list_of_blocks.ensures.one }
