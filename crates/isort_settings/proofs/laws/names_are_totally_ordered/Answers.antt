-- The order of names is made of total orders, and its last one tells all texts apart.
use Rattle.isort_settings.proofs.OrderLaws.{name_cmp_total, name_cmp-Equal}
use Rattle.isort_settings.proofs.laws.names_are_totally_ordered.Goals as goal

pub returns-clause-total : goal.returns-clause-total
returns-clause-total c = name_cmp_total

pub returns-clause-equal : goal.returns-clause-equal
returns-clause-equal c = name_cmp-Equal
