use Rattle.isort_c.proofs.AnswerLemmas.{sort_unread}
use Rattle.isort_c.proofs.sort.fihroste_sort.Goals as goal

pub returns-in-Err : goal.returns-in-Err
returns-in-Err c = sort_unread c.args.text.now _ c.in-Err.answer c.args.out.now c.in-Err.ensures.err
