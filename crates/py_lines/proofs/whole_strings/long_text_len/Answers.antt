use Rattle.std.proofs.lemmas.Grind.{common_steps}
use Rattle.py_lines.specs.Private.LongStrings.{TakesLong}
use Rattle.py_lines.specs.Private.Scan.{passed, with_bytes}
use Rattle.py_lines.proofs.Prelude.{◌+◌, ap, arith, length, length-drop, refl, rest_is}
use Rattle.py_lines.proofs.PassedPieces.Items.{long_closed, long_grown, long_run}
use Rattle.py_lines.proofs.whole_strings.long_text_len.Goals as goal
use Rattle.py_lines.proofs.whole_strings.long_text_len.Goals.{After-characters_in-len-in-items, In-Closes}

pub items-init : goal.items-init
items-init c = long_run _ c.requires _ _ c.characters_in-len.ensures

pub text_move-requires-clause-some : goal.text_move-requires-clause-some
text_move-requires-clause-some c = omega (arith, ap length (rest_is c.args.bytes.now c.items.len), length-drop c.items.len c.args.bytes.now, c.items-test.true)

-- they go on to the string's end
closed : (c : In-Closes) → TakesLong passed c.args.quote c.args.bytes.now (c.items.len + c.in-Closes.quotes)
closed c = long_closed _ _ _ _ c.items.invariant (c.in-Closes.ensures.does (refl, refl))

pub overflow_add-result : goal.overflow_add-result
overflow_add-result c = omega (arith, (closed c).within, c.well_formed)

pub returns-in-Closes : goal.returns-in-Closes
returns-in-Closes c = closed (goal.at.returns-in-Closes c).In-Closes

-- they go on in the string
grown : (c : After-characters_in-len-in-items)
    → TakesLong with_bytes c.args.quote c.args.bytes.now (c.items.len + c.in-Grows.more + c.characters_in-len-in-items.result)
grown c =
    let grows = rw c.in-Grows.ensures.same at c.in-Grows.ensures.does (refl, refl) in
    long_grown _ c.requires _ _ _ _ c.items.invariant grows c.characters_in-len-in-items.ensures

pub overflow_add-len-in-items : goal.overflow_add-len-in-items
overflow_add-len-in-items c = omega (arith, (grown c).within, c.well_formed)

pub items-preserved : goal.items-preserved
items-preserved c = grown (goal.at.items-preserved c).After-characters_in-len-in-items

pub overflow_add-len : goal.overflow_add-len
overflow_add-len c = grind (arith, common_steps)

pub slice_bounds-characters_in-count : goal.slice_bounds-characters_in-count
slice_bounds-characters_in-count c = grind (arith, common_steps)

pub slice_bounds-characters_in-start : goal.slice_bounds-characters_in-start
slice_bounds-characters_in-start c = grind (arith, common_steps)

pub items-smaller : goal.items-smaller
items-smaller c = grind arith
