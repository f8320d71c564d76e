use Rattle.std.proofs.Common.{◌++◌, codes, string_bytes, refl, ap, ◌∙◌, arith}
use Rattle.isort_sort.specs.Private.Values.{item_value}
use Rattle.isort_sort.specs.Wrapping.{item_text}
use Rattle.isort_sort.proofs.Layouts.Writing.{following-more, following-all, following-joined}
use Rattle.isort_sort.proofs.wrapping.push_items.Goals as goal

pub loop-item-preserved : goal.loop-item-preserved
unfolding lib.Utf8.encode
loop-item-preserved c = record {
  text = following-more (λ i. item_text (item_value i)) _ (codes ", ") _ _ _ _ _ _ _ c.loop-item-test.true c.item-item.is c.in_ok-push_str.ensures.bytes c.in_ok-push_item.ensures c.loop-item.invariant.text;
  utf8 = (codes ", ", (refl, refl));
}

pub returns : goal.returns
returns c =
    following-all (λ i. item_text (item_value i)) _ (codes ", ") _ _ c.args.items.now c.loop-item.item-index (omega arith) c.loop-item.invariant.text
    ∙ ap (λ t. string_bytes c.args.out.now ++ t) (following-joined item_text item_value (codes ", ") c.args.items.now)
