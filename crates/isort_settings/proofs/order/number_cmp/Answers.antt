-- Without their leading zeros, numbers compare by how many digits they have, and then by these.
use Rattle.std.proofs.Common.{◌∙◌}
use Rattle.isort_settings.proofs.OrderNumbers.{numbers_cmp}
use Rattle.isort_settings.proofs.OrderThen.{then-tied, then-decided}
use Rattle.isort_settings.proofs.order.number_cmp.Goals as goal

pub returns-in-Equal : goal.returns-in-Equal
returns-in-Equal c =
    c.cmp-in-Equal.ensures ∙ then-tied _ _ _ c.cmp.ensures c.in-Equal.is
    ∙ numbers_cmp c.args.a.now c.args.b.now _ _ c.requires.digits_a c.requires.digits_b c.split_run.ensures.rest c.split_run-2.ensures.rest

pub returns-in_default : goal.returns-in_default
returns-in_default c =
    then-decided _ _ _ c.cmp.ensures c.in_default.not-Equal
    ∙ numbers_cmp c.args.a.now c.args.b.now _ _ c.requires.digits_a c.requires.digits_b c.split_run.ensures.rest c.split_run-2.ensures.rest
