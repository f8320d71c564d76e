use Rattle.py_lines.proofs.Prelude.{◌+◌, ap, arith, le_refl, length-drop, take_rest, line_ends}
use Rattle.py_lines.proofs.LineScan.LineCount.{line_ends-le}
use Rattle.py_lines.proofs.Text.LineEnds.{ends_counted, line_ends-encoded, lone_more, none_lone}
use Rattle.py_lines.proofs.line_ends.line_ends.Goals as goal

pub loop-at-init : goal.loop-at-init
loop-at-init c = record {
  within = le_refl _;
  count = ends_counted c.args.bytes.now _ c.line_feeds-count.ensures;
}

pub overflow_add-count : goal.overflow_add-count
overflow_add-count c =
    let (first, is) = c.in-Some.ensures in
    rw (c.starts_with.ensures.value, take_rest c.loop-at.rest.now (c.in-Some.at + 1)) (omega (
      arith,
      c.well_formed,
      c.loop-at.invariant.count,
      lone_more c.loop-at.rest.now c.in-Some.at first.before first.high is,
      line_ends-le c.args.bytes.now,
    ))

pub loop-at-preserved : goal.loop-at-preserved
loop-at-preserved c =
    let (first, is) = c.in-Some.ensures in
    rw (c.starts_with.ensures.value, take_rest c.loop-at.rest.now (c.in-Some.at + 1)) record {
      within = omega (arith, c.loop-at.invariant.within, length-drop (c.in-Some.at + 1) c.loop-at.rest.now);
      count = omega (arith, c.loop-at.invariant.count, lone_more c.loop-at.rest.now c.in-Some.at first.before first.high is);
    }

pub returns-clause-few : goal.returns-clause-few
returns-clause-few c = omega (arith, c.loop-at.invariant.count, none_lone c.loop-at.rest.now c.in_default.ensures, line_ends-le c.args.bytes.now)

pub returns-clause-bytes : goal.returns-clause-bytes
returns-clause-bytes c = omega (arith, c.loop-at.invariant.count, none_lone c.loop-at.rest.now c.in_default.ensures)

pub returns-clause-count : goal.returns-clause-count
returns-clause-count c characters spell =
    omega (
      arith,
      c.loop-at.invariant.count,
      none_lone c.loop-at.rest.now c.in_default.ensures,
      line_ends-encoded characters,
      ap line_ends spell,
    )
