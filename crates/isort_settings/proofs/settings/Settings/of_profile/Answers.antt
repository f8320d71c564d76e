-- The five sections alone are as settings keep them.
use Rattle.isort_settings.proofs.SectionOrders.{StandOnce-alone}
use Rattle.isort_settings.proofs.settings.Settings.of_profile.Goals as goal

pub with_sections-settings-requires-clause-each_once : goal.with_sections-settings-requires-clause-each_once
with_sections-settings-requires-clause-each_once c = StandOnce-alone c.five_alone.result c.five_alone.ensures
