-- The groups of all statements, sorted, are the statements of the members.
use Rattle.std.proofs.Common.{rules}
use Rattle.std.specs.Ordering.{is_lt}
use Rattle.std.proofs.lemmas.Fn.{always_returns_same}
use Rattle.std.proofs.lemmas.List.Sorted.{ranks_by}
use Rattle.isort_settings.specs.Values.{values}
use Rattle.isort_sort.specs.Private.GroupOrder.{group_cmp}
use Rattle.isort_sort.specs.Private.Group.{group_value}
use Rattle.isort_sort.proofs.Groups.Ordered.{are_grouped, group_cmp_total}
use Rattle.isort_sort.proofs.Orders.Statements.{AreOrders}
use Rattle.isort_sort.proofs.group.group_members.Goals as goal

pub returns : goal.returns
returns c =
    let v = values c.args.settings.now in
    let o : AreOrders v = record { modules = c.modules_are_totally_ordered.ensures.total v; exact_modules = c.modules_are_totally_ordered.ensures.equal v; names = c.names_are_totally_ordered.ensures.total v; exact_names = c.names_are_totally_ordered.ensures.equal v } in
    are_grouped v o _ c.in_ok-statements.statements.entries c.in_ok-groups.groups.items c.sort_by.new.self.items c.in_ok-statements.ensures c.in_ok-groups.ensures.made c.in_ok-groups.ensures.distinct c.sort_by.ensures.permutation
    (c.in_ok-sort_by.ensures.sorted (λ x y. is_lt (group_cmp v (group_value x) (group_value y))) (ranks_by (group_cmp_total v o) group_value) (always_returns_same _ _ _ (λ a r q k. search rules)))
