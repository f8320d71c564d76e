-- Text by text and number by number.
use Rattle.std.proofs.Common.{◌≡◌, inl, inr, sym, ◌∙◌}
use Rattle.isort_settings.proofs.OrderParts.{text_decides, text_ties, numbers_decide, numbers_tie, compare_end, BeginsWithDigit-rest, AllDigits-digits, shorter_after, no_bytes, some_bytes, parts_order, numbers_order}
use Rattle.isort_settings.proofs.order.parts_cmp.Goals.{then-is_empty-via-then-is_empty, then-is_empty-via-else-is_empty+then-is_empty-2}
use Rattle.isort_settings.proofs.order.parts_cmp.Goals as goal

pub returns-then-is_ne : goal.returns-then-is_ne
returns-then-is_ne c =
    text_decides c.args.case_sensitive c.args.a.now c.args.b.now c.loop-a_rest.a_left.now c.loop-a_rest.b_left.now _ _ _ _ _ _ c.loop-a_rest.invariant
    c.split_text.ensures.before c.split_text-in-loop-a_rest.ensures.before c.split_text.ensures.rest c.split_text-in-loop-a_rest.ensures.rest
    c.text_cmp-by_text.ensures c.is_ne.ensures c.if-is_ne.true

pub returns-then-is_empty : goal.returns-then-is_empty
returns-then-is_empty c =
    let a_digit = BeginsWithDigit-rest c.loop-a_rest.a_left.now _ c.split_text.ensures.rest in
    let b_digit = BeginsWithDigit-rest c.loop-a_rest.b_left.now _ c.split_text-in-loop-a_rest.ensures.rest in
    let left : parts_order c.args.case_sensitive c.args.a.now c.args.b.now ≡ numbers_order c.args.case_sensitive c.split_text.result.1.now c.split_text-in-loop-a_rest.result.1.now =
    text_ties c.args.case_sensitive c.args.a.now c.args.b.now c.loop-a_rest.a_left.now c.loop-a_rest.b_left.now _ _ _ _ _ _ c.loop-a_rest.invariant
    c.split_text.ensures.before c.split_text-in-loop-a_rest.ensures.before c.split_text.ensures.rest c.split_text-in-loop-a_rest.ensures.rest
    c.text_cmp-by_text.ensures c.is_ne.ensures c.if-is_ne.false in
    elim c.then-is_empty.branch [
      | then-is_empty-via-then-is_empty w ↦
          (let none = no_bytes _ _ c.is_empty.ensures w.if-is_empty.true in
          c.cmp.ensures ∙ sym (left ∙ compare_end c.args.case_sensitive _ _ a_digit b_digit (inl none)))
      | then-is_empty-via-else-is_empty+then-is_empty-2 w ↦
          (let none = no_bytes _ _ w.is_empty-else-is_empty.ensures w.if-is_empty-2.true in
          c.cmp.ensures ∙ sym (left ∙ compare_end c.args.case_sensitive _ _ a_digit b_digit (inr none)))
    ]

pub number_cmp-by_number-requires-clause-digits_a : goal.number_cmp-by_number-requires-clause-digits_a
number_cmp-by_number-requires-clause-digits_a c = AllDigits-digits c.split_text.result.1.now _ c.split_number.ensures.digits

pub number_cmp-by_number-requires-clause-digits_b : goal.number_cmp-by_number-requires-clause-digits_b
number_cmp-by_number-requires-clause-digits_b c = AllDigits-digits c.split_text-in-loop-a_rest.result.1.now _ c.split_number-in-loop-a_rest.ensures.digits

pub returns-then-is_ne-2 : goal.returns-then-is_ne-2
returns-then-is_ne-2 c =
    let a_some = some_bytes _ _ c.is_empty.ensures c.if-is_empty.false in
    let b_some = some_bytes _ _ c.is_empty-else-is_empty.ensures c.if-is_empty-2.false in
    let left : parts_order c.args.case_sensitive c.args.a.now c.args.b.now ≡ numbers_order c.args.case_sensitive c.split_text.result.1.now c.split_text-in-loop-a_rest.result.1.now =
    text_ties c.args.case_sensitive c.args.a.now c.args.b.now c.loop-a_rest.a_left.now c.loop-a_rest.b_left.now _ _ _ _ _ _ c.loop-a_rest.invariant
    c.split_text.ensures.before c.split_text-in-loop-a_rest.ensures.before c.split_text.ensures.rest c.split_text-in-loop-a_rest.ensures.rest
    c.text_cmp-by_text.ensures c.is_ne.ensures c.if-is_ne.false in
    numbers_decide c.args.case_sensitive c.split_text.result.1.now c.split_text-in-loop-a_rest.result.1.now _ _ _ _ _ _
    (BeginsWithDigit-rest c.loop-a_rest.a_left.now _ c.split_text.ensures.rest) (BeginsWithDigit-rest c.loop-a_rest.b_left.now _ c.split_text-in-loop-a_rest.ensures.rest) a_some b_some
    c.split_number.ensures.digits c.split_number-in-loop-a_rest.ensures.digits c.split_number.ensures.rest c.split_number-in-loop-a_rest.ensures.rest
    c.number_cmp-by_number.ensures c.is_ne-in-loop-a_rest.ensures c.if-is_ne-2.true
    ∙ sym left

pub loop-a_rest-smaller : goal.loop-a_rest-smaller
loop-a_rest-smaller c =
    let a_some = some_bytes _ _ c.is_empty.ensures c.if-is_empty.false in
    shorter_after c.loop-a_rest.a_left.now c.split_text.result.1.now _ c.split_text.ensures.rest c.split_number.ensures.rest a_some

pub loop-a_rest-preserved : goal.loop-a_rest-preserved
loop-a_rest-preserved c =
    let a_some = some_bytes _ _ c.is_empty.ensures c.if-is_empty.false in
    let b_some = some_bytes _ _ c.is_empty-else-is_empty.ensures c.if-is_empty-2.false in
    text_ties c.args.case_sensitive c.args.a.now c.args.b.now c.loop-a_rest.a_left.now c.loop-a_rest.b_left.now _ _ _ _ _ _ c.loop-a_rest.invariant
    c.split_text.ensures.before c.split_text-in-loop-a_rest.ensures.before c.split_text.ensures.rest c.split_text-in-loop-a_rest.ensures.rest
    c.text_cmp-by_text.ensures c.is_ne.ensures c.if-is_ne.false
    ∙ numbers_tie c.args.case_sensitive c.split_text.result.1.now c.split_text-in-loop-a_rest.result.1.now _ _ _ _ _ _
    (BeginsWithDigit-rest c.loop-a_rest.a_left.now _ c.split_text.ensures.rest) (BeginsWithDigit-rest c.loop-a_rest.b_left.now _ c.split_text-in-loop-a_rest.ensures.rest) a_some b_some
    c.split_number.ensures.digits c.split_number-in-loop-a_rest.ensures.digits c.split_number.ensures.rest c.split_number-in-loop-a_rest.ensures.rest
    c.number_cmp-by_number.ensures c.is_ne-in-loop-a_rest.ensures c.if-is_ne-2.false
