-- The first bytes decide, or all parts.
use Rattle.std.proofs.Common.{◌∙◌}
use Rattle.isort_settings.proofs.OrderShared.{order_by_first}
use Rattle.isort_settings.proofs.OrderThen.{then-decided}
use Rattle.isort_settings.proofs.order.rest_cmp.Goals as goal

pub returns-in_default : goal.returns-in_default
returns-in_default c =
    then-decided _ _ _ c.cmp.ensures c.in_default.not-Equal
    ∙ order_by_first c.args.case_sensitive c.args.a.now c.args.b.now _ _ c.first_of_text-a_first.ensures c.first_of_text-b_first.ensures
