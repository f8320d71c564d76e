use Rattle.isort_c.proofs.AnswerLemmas.{check_unread}
use Rattle.isort_c.proofs.sort.fihroste_check.Goals as goal

pub returns-in-Err : goal.returns-in-Err
returns-in-Err c = check_unread c.args.text.now _ c.in-Err.answer c.in-Err.ensures.err
