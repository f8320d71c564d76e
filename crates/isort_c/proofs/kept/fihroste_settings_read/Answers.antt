use Rattle.isort_c.specs.Kept.{kept_reading}
use Rattle.isort_c.proofs.AnswerLemmas.{keeps_unread}
use Rattle.isort_c.proofs.kept.fihroste_settings_read.Goals as goal

pub returns-in-Err : goal.returns-in-Err
returns-in-Err c = keeps_unread _ c.in-Err.answer (kept_reading c.args.kept.now) c.in-Err.ensures.err
