-- Items that were sorted by their order, and whose repeats were dropped, are in order.
use Rattle.std.proofs.Common.{rules}
use Rattle.std.proofs.lemmas.List.Sorted.{ranks_by}
use Rattle.std.proofs.lemmas.Fn.{always_returns_same}
use Rattle.std.specs.Ordering.{is_lt}
use Rattle.isort_settings.specs.Values.{values}
use Rattle.isort_sort.specs.Statement.{item_cmp}
use Rattle.isort_sort.specs.Private.Values.{item_value}
use Rattle.isort_sort.proofs.Orders.SortedVectors.{in_order_by_value}
use Rattle.isort_sort.proofs.Orders.Equality.{item_eq, ties, equivalence}
use Rattle.isort_sort.proofs.Orders.Statements.{name_orders_total, name_orders_exact}
use Rattle.isort_sort.proofs.group.order_items.Goals as goal

pub returns : goal.returns
returns c =
    let v = values c.args.settings.now in
    let total = name_orders_total v (c.names_are_totally_ordered.ensures.total v) in
    let exact = name_orders_exact v (c.names_are_totally_ordered.ensures.equal v) in
    in_order_by_value item_value total exact item_eq (equivalence v total exact) (ties v total exact) _ _ _ c.sort_by.ensures.permutation
    (c.in_ok-sort_by.ensures.sorted (λ x y. is_lt (item_cmp v (item_value x) (item_value y))) (ranks_by total item_value) (always_returns_same _ _ _ (λ a r q k. search rules)))
    c.dedup.ensures.filtered
