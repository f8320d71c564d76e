use Rattle.std.proofs.lemmas.Grind.{common_steps}
use Rattle.py_lines.proofs.Prelude.{◌≡◌, ◌+◌, arith, count_by, count_by-le-length, le_refl, length-drop, ones, take_rest}
use Rattle.py_lines.proofs.SpecialBytes.Places.{filled_count}
use Rattle.py_lines.proofs.line_ends.line_feeds.Goals as goal
use Rattle.py_lines.proofs.line_ends.line_feeds.Goals.{After-feeds64-2}
use Rattle.memchr.specs.Find.{is_byte}

pub loop-rest-init : goal.loop-rest-init
loop-rest-init c = record { within = le_refl _; counted = omega arith }

pub overflow_add-count : goal.overflow_add-count
overflow_add-count c = omega (arith, c.well_formed, c.loop-rest.invariant.counted, c.feeds64.ensures.count, count_by-le-length (is_byte 10) c.args.bytes.now)

pub loop-rest-smaller : goal.loop-rest-smaller
loop-rest-smaller c = omega (arith, c.loop-rest-test.true, length-drop 64 c.loop-rest.rest.now)

pub loop-rest-preserved : goal.loop-rest-preserved
loop-rest-preserved c =
    let rest = c.loop-rest.rest.now in
    rw (take_rest rest 64) record {
      within = omega (arith, c.loop-rest.invariant.within, length-drop 64 rest);
      counted = omega (arith, c.loop-rest.invariant.counted, c.feeds64.ensures.count);
    }

-- all of them
all : (c : After-feeds64-2) → c.loop-rest.count + ones c.feeds64-2.result ≡ count_by (is_byte 10) c.args.bytes.now
all c =
    let few = c.loop-rest-test.false in
    let last = filled_count c.loop-rest.rest.now _ _ c.copy_from_slice.ensures.after (omega (arith, few)) c.feeds64-2.ensures.count in
    omega (arith, c.loop-rest.invariant.counted, last)

pub overflow_add-result : goal.overflow_add-result
overflow_add-result c = omega (arith, c.well_formed, all (goal.at.overflow_add-result c).After-feeds64-2, count_by-le-length (is_byte 10) c.args.bytes.now)

pub returns : goal.returns
returns c = all (goal.at.returns c).After-feeds64-2

pub overflow_cast-count : goal.overflow_cast-count
overflow_cast-count c = grind (arith, common_steps)

pub copy_from_slice-requires : goal.copy_from_slice-requires
copy_from_slice-requires c = grind (arith, common_steps)

pub overflow_cast-result : goal.overflow_cast-result
overflow_cast-result c = grind (arith, common_steps)

pub slice_bounds-feeds64-end : goal.slice_bounds-feeds64-end
slice_bounds-feeds64-end c = grind (arith, common_steps)

pub feeds64-requires-2 : goal.feeds64-requires-2
feeds64-requires-2 c = grind (arith, common_steps)
