-- The order of statements, part by part, and that of groups.
use Rattle.std.specs.Ordering.{nat_cmp, ordering_then}
use Rattle.std.specs.declared.cmp.Ordering.{Ordering}
use Rattle.isort_settings.specs.Orders.{module_cmp}
use Rattle.isort_settings.specs.Values.{Values}
use Rattle.isort_sort.specs.Private.Group.{Group}
use Rattle.isort_sort.specs.Statement.{Statement, group_place, module_of, form_place, own_item, item_cmp}

-- the order among the statements of one section and module: by form, and then by what tells them apart
abbrev pub cmp_in_module : Values → Statement → Statement → Ordering
cmp_in_module v a b = ordering_then (nat_cmp (form_place a) (form_place b)) (item_cmp v (own_item a) (own_item b))

-- the order among the statements of one section
abbrev pub cmp_in_section : Values → Statement → Statement → Ordering
cmp_in_section v a b =
    ordering_then (nat_cmp (group_place v a) (group_place v b))
    (ordering_then (module_cmp v (module_of a) (module_of b)) (cmp_in_module v a b))

-- the order of groups: that of their statements, with the ranks that the groups have
abbrev pub group_cmp : Values → Group → Group → Ordering
group_cmp v a b =
    ordering_then (nat_cmp a.rank b.rank) (cmp_in_section v a.statement b.statement)
