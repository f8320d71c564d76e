-- The texts are the same in small letters.
use Rattle.isort_settings.proofs.Names.{says_equal}
use Rattle.isort_settings.proofs.section_names.is_same_word.Goals as goal

pub returns : goal.returns
returns c = says_equal c.eq_ignore_ascii_case.result _ _ c.eq_ignore_ascii_case.ensures.test
