-- The dots decide, and then the order of what follows them.
use Rattle.std.proofs.Common.{◌∙◌}
use Rattle.isort_settings.proofs.OrderThen.{then-tied, then-decided}
use Rattle.isort_settings.proofs.settings.Settings.order_modules.Goals as goal

pub returns-in-Equal : goal.returns-in-Equal
returns-in-Equal c =
    let e = rw (c.split_run-a_dots.ensures.count, c.split_run-b_dots.ensures.count, c.as_bytes.ensures.value, c.as_bytes-2.ensures.value) at c.cmp.ensures in
    let n = rw (c.split_run-a_dots.ensures.rest, c.split_run-b_dots.ensures.rest, c.as_bytes.ensures.value, c.as_bytes-2.ensures.value) at c.natural_cmp.ensures in
    n ∙ then-tied _ _ _ e c.in-Equal.is

pub returns-in_default : goal.returns-in_default
returns-in_default c =
    let e = rw (c.split_run-a_dots.ensures.count, c.split_run-b_dots.ensures.count, c.as_bytes.ensures.value, c.as_bytes-2.ensures.value) at c.cmp.ensures in
    then-decided _ _ _ e c.in_default.not-Equal
