use Rattle.isort_c.proofs.sort.sort_under.Goals as goal

pub returns : goal.returns
returns c = (c.sort_code.result, c.sort_code.ensures.sorts, c.put.ensures.answer, c.put.ensures.out)
