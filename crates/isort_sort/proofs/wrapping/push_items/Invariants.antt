use Rattle.std.proofs.Common.{◌≡◌, ◌++◌, [], string_bytes, codes, drop}
use Rattle.isort_sort.specs.Private.Values.{item_value}
use Rattle.isort_sort.specs.Wrapping.{item_text}
use Rattle.isort_sort.proofs.Layouts.Writing.{following}
use Rattle.isort_sort.proofs.wrapping.push_items.Given as goal
use denote.Shadow.{shadow}
use denote.Text.{Utf8}

abbrev pub invariant-loop-item : goal.invariant-loop-item
invariant-loop-item l = record {
  text : string_bytes l.out ++ following (λ i. item_text (item_value i)) l.before (codes ", ") (drop l.item-index l.items) ≡ string_bytes l.initial.out ++ following (λ i. item_text (item_value i)) [] (codes ", ") l.items;
  utf8 : shadow (Utf8 l.before);
}
