use Rattle.std.proofs.lemmas.Grind.{common_steps}
use Rattle.py_lines.proofs.Prelude.{◌+◌, ◌<◌, ◌≤◌, length, arith}
use Rattle.py_lines.proofs.FieldScans.TextLengths.{code_counted, code_counted_on, quote_next, rest_within, text_within}
use Rattle.py_lines.proofs.whole_strings.simple_code_len.Goals as goal
use Rattle.py_lines.proofs.whole_strings.simple_code_len.Goals.{In-Some}

pub loop-text-init : goal.loop-text-init
loop-text-init c = record { counted = code_counted c.args.bytes.now c.len_in-len.result c.len_in-len.ensures }

pub whole_plain_string-requires : goal.whole_plain_string-requires
whole_plain_string-requires c = record { begins = quote_next c.args.bytes.now c.loop-text.len (c.begins_plain_string.ensures c.loop-text-test.true) }

-- the string stands within the bytes
taken : (c : In-Some) → (0 < c.in-Some.text) × (c.loop-text.len + c.in-Some.text ≤ length c.args.bytes.now)
taken c = text_within c.args.bytes.now c.loop-text.len c.in-Some.text c.loop-text.invariant.counted.code.within c.in-Some.ensures

pub overflow_add-len : goal.overflow_add-len
overflow_add-len c = omega (arith, c.well_formed, (taken c).1)

pub slice_bounds-len_in-count : goal.slice_bounds-len_in-count
slice_bounds-len_in-count c = (taken c).1

pub overflow_add-len-in-loop-text : goal.overflow_add-len-in-loop-text
overflow_add-len-in-loop-text c =
    let before = (taken (goal.at.overflow_add-len-in-loop-text c).In-Some).1 in
    omega (arith, c.well_formed, rest_within c.args.bytes.now (c.loop-text.len + c.in-Some.text) _ before c.len_in-len-in-loop-text.ensures.within)

pub loop-text-smaller : goal.loop-text-smaller
loop-text-smaller c = omega (arith, taken (goal.at.loop-text-smaller c).In-Some)

pub loop-text-preserved : goal.loop-text-preserved
loop-text-preserved c = record {
  counted = code_counted_on _ _ _ _ c.loop-text.invariant.counted (c.begins_plain_string.ensures c.loop-text-test.true)
      c.in-Some.ensures c.len_in-len-in-loop-text.ensures;
}

pub returns-in_default : goal.returns-in_default
returns-in_default c = c.loop-text.invariant.counted.code

pub returns : goal.returns
returns c = c.loop-text.invariant.counted.code

pub slice_bounds-len_in-start : goal.slice_bounds-len_in-start
slice_bounds-len_in-start c = grind (arith, common_steps)
