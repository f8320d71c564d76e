-- What both texts begin with alike is left out; the parts of what follows decide, and then the bytes.
use Rattle.std.proofs.Common.{◌∙◌, refl, arith}
use Rattle.isort_settings.proofs.OrderShared.{order_after_shared, shared_bounds}
use Rattle.isort_settings.proofs.OrderThen.{then-tied, then-decided}
use Rattle.isort_settings.proofs.order.natural_cmp.Goals as goal

pub slice_bounds-digits_at_end-end : goal.slice_bounds-digits_at_end-end
slice_bounds-digits_at_end-end c = (shared_bounds c.args.a.now c.args.b.now _ _ c.shared_len-shared.ensures refl).0

pub overflow_sub-start : goal.overflow_sub-start
overflow_sub-start c = (shared_bounds c.args.a.now c.args.b.now _ _ c.shared_len-shared.ensures c.digits_at_end.ensures).1

pub split_at-requires : goal.split_at-requires
split_at-requires c =
    let bounds = shared_bounds c.args.a.now c.args.b.now _ _ c.shared_len-shared.ensures c.digits_at_end.ensures in
    omega (arith, bounds.2)

pub split_at-requires-2 : goal.split_at-requires-2
split_at-requires-2 c =
    let bounds = shared_bounds c.args.a.now c.args.b.now _ _ c.shared_len-shared.ensures c.digits_at_end.ensures in
    omega (arith, bounds.3)

pub returns-in-Equal : goal.returns-in-Equal
returns-in-Equal c =
    let same = order_after_shared c.args.case_sensitive c.args.a.now c.args.b.now _ _ _ _ c.shared_len-shared.ensures c.digits_at_end.ensures c.split_at.ensures.back c.split_at-2.ensures.back in
    c.cmp.ensures ∙ then-tied _ _ _ (c.rest_cmp.ensures ∙ same) c.in-Equal.is

pub returns-in_default : goal.returns-in_default
returns-in_default c =
    let same = order_after_shared c.args.case_sensitive c.args.a.now c.args.b.now _ _ _ _ c.shared_len-shared.ensures c.digits_at_end.ensures c.split_at.ensures.back c.split_at-2.ensures.back in
    then-decided _ _ _ (c.rest_cmp.ensures ∙ same) c.in_default.not-Equal
