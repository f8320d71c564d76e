use Rattle.isort_sort.proofs.SortedTexts.OneSorted.{some_blocks, one_list_of_blocks}
use Rattle.isort_sort.proofs.laws.one_list_of_blocks.Goals as goal

pub returns : goal.returns
returns c = record { some = some_blocks; one = one_list_of_blocks c.one_lexing.ensures.one_list c.binds_or_is_bad.ensures.one_list }
