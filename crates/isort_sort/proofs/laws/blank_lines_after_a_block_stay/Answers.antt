use Rattle.isort_sort.proofs.SortedTexts.LaidAgain.{blanks_again, blanks_kept}
use Rattle.isort_sort.proofs.laws.blank_lines_after_a_block_stay.Goals as goal

pub returns : goal.returns
returns c = record { same = blanks_again; as_many = blanks_kept }
