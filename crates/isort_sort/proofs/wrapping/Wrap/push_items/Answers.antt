use Rattle.std.proofs.Common.{◌∙◌, ap, string_bytes, arith}
use Rattle.isort_sort.specs.Private.Packing.{next_line}
use Rattle.isort_sort.proofs.Layouts.Packing.{room_left, item_written, item_written_below, items_written}
use Rattle.isort_sort.proofs.wrapping.Wrap.push_items.Goals as goal
use Rattle.isort_sort.proofs.wrapping.Wrap.push_items.Goals.{in-Some-room_after_next+in_ok-push_str-in-Some-room_after_next, in-None+in_ok-push_break-in-None}

pub loop-item-preserved : goal.loop-item-preserved
loop-item-preserved c =
    let others = c.in-Some.others.now in
    let next = next_line c.args.self.now in
    elim c.match-room_after_next.branch [
      | in-Some-room_after_next+in_ok-push_str-in-Some-room_after_next w ↦ item_written next _ _ _ others _ _ _ _ _ _ c.loop-item-test.true c.item-item.is (w.in-Some-room_after_next.ensures).0 (w.left-is ∙ (w.in-Some-room_after_next.ensures).1) (ap string_bytes w.out-is ∙ (w.in_ok-push_str-in-Some-room_after_next.ensures).bytes) c.in_ok-push_item-2.ensures c.loop-item.invariant
      | in-None+in_ok-push_break-in-None w ↦ item_written_below next _ _ _ others _ _ _ _ _ _ c.loop-item-test.true c.item-item.is (omega (arith, w.in-None.ensures)) (w.left-is ∙ w.unwrap_or-left-in-None.ensures ∙ room_left _ _ _ w.room_after-in-None.ensures) (ap string_bytes w.out-is ∙ w.in_ok-push_break-in-None.ensures) c.in_ok-push_item-2.ensures c.loop-item.invariant
    ]

pub returns : goal.returns
returns c =
    items_written (next_line c.args.self.now) _ _ _ c.args.items.now c.in-Some.others.now _ _ _ _ _ c.in-Some.ensures.cases.0 c.in_ok-push_item.ensures (c.unwrap_or-left.ensures ∙ room_left _ _ _ c.room_after.ensures) c.loop-item-test.false c.loop-item.invariant
