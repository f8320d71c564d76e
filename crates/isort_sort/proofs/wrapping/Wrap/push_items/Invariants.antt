use Rattle.std.proofs.Common.{◌≡◌, ◌++◌, string_bytes, map, drop}
use Rattle.isort_sort.specs.Private.Values.{item_value}
use Rattle.isort_sort.specs.Private.Packing.{next_line}
use Rattle.isort_sort.proofs.Layouts.Packing.{more_items}
use Rattle.isort_sort.proofs.wrapping.Wrap.push_items.Given as goal

abbrev pub invariant-loop-item : goal.invariant-loop-item
invariant-loop-item l =
    string_bytes l.out ++ more_items (next_line l.self) l.self.room (map item_value (drop l.item-index l.others)) l.left ≡ string_bytes l.initial.out ++ more_items (next_line l.self) l.self.room (map item_value l.others) l.initial.left
