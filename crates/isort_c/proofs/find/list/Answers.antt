use Rattle.isort_c.proofs.find.list.Goals as goal

pub returns : goal.returns
returns c = rw (c.in_ok-finder.ensures.text, c.in_ok-finder.ensures.cursor) at c.list_all.ensures
