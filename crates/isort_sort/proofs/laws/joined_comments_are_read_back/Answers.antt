use Rattle.isort_sort.proofs.Rows.ReadBack.{own_comments_bare, joined_read_back}
use Rattle.isort_sort.proofs.laws.joined_comments_are_read_back.Goals as goal

pub returns : goal.returns
returns c = record { own = own_comments_bare; joined = joined_read_back }
