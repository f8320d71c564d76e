-- The order of modules is made of total orders, and its last one tells all texts apart.
use Rattle.isort_settings.proofs.OrderLaws.{module_cmp_total, module_cmp-Equal}
use Rattle.isort_settings.proofs.laws.modules_are_totally_ordered.Goals as goal

pub returns-clause-total : goal.returns-clause-total
returns-clause-total c = module_cmp_total

pub returns-clause-equal : goal.returns-clause-equal
returns-clause-equal c = module_cmp-Equal
