use Rattle.py_lines.proofs.Prelude.{◌+◌, ◌-◌, ◌<◌, ◌≤◌, ◌∙◌, length, take, drop, sym, ap, subst, arith, length-drop, eqb-true, drop-drop, nil_from_length, take_rest}
use Rattle.py_lines.specs.Private.LineScan.{Reached}
use Rattle.py_lines.proofs.LineScan.LineStops.{GoesTo, gone, goes_run, goes_step, stops_line, stops_text, stops_waiting, stops_wrong}
use Rattle.py_lines.proofs.Text.FirstCharacters.{some_bytes}
use Rattle.py_lines.proofs.scan.Scan.take_items.Goals as goal
use Rattle.py_lines.proofs.scan.Scan.take_items.Goals.{After-hold-rest, In-Going}

-- where the item has brought the scan, if the line goes on
went : (c : In-Going) → GoesTo c.args.self.now c.args.bytes.now c.step.new.self
    (take (length c.items.rest.now - c.in-Going.len) (drop c.in-Going.len c.items.rest.now)) × (0 < c.in-Going.len) × (c.in-Going.len ≤ length c.items.rest.now)
went c =
    let some = some_bytes c.items.rest.now (sym c.is_empty.ensures ∙ c.items-test.true) in
    let (goes, more, fits) = goes_step c.requires.way c.items.invariant.further c.items.invariant.goes some _ _ c.step.ensures c.in-Going.is in
    (λ m whole start r. subst (Reached m whole c.step.new.self) (sym (take_rest c.items.rest.now c.in-Going.len)) (goes m whole start r), more, fits)

-- and where it is after what it holds of the item
record Held (c : After-hold-rest) : Type 0 where
  goes : GoesTo c.args.self.now c.args.bytes.now c.hold-rest.new.self c.hold-rest.result.now
  smaller : length c.hold-rest.result.now < length c.items.rest.now
  further : c.args.self.now.stop < c.hold-rest.new.self.stop

held : (c : After-hold-rest) → GoesTo c.args.self.now c.args.bytes.now c.step.new.self
    (take (length c.items.rest.now - c.in-Going.len) (drop c.in-Going.len c.items.rest.now)) × (0 < c.in-Going.len) × (c.in-Going.len ≤ length c.items.rest.now) → Held c
held c (left, some, fits) =
    let rest = c.items.rest.now in
    let (n, holds, is) = c.hold-rest.ensures in
    let to = goes_run left c.hold-rest.ensures in
    let later = is ∙ ap (drop n) (take_rest rest c.in-Going.len) ∙ drop-drop n c.in-Going.len rest in
    let less : length c.hold-rest.result.now < length rest = omega (arith, ap length later, length-drop (c.in-Going.len + n) rest, some, fits) in
    record {
      goes = to;
      smaller = less;
      further = omega (arith, less, (gone c.requires.way c.items.invariant.goes).room, (gone c.requires.way to).room, c.items.invariant.further);
    }

pub step-requires : goal.step-requires
step-requires c =
    let at = gone c.requires.way c.items.invariant.goes in
    record {
      some = some_bytes c.items.rest.now (sym c.is_empty.ensures ∙ c.items-test.true);
      bytes = omega (arith, c.requires.bytes, at.room);
      quote = at.quote;
    }

pub slice_bounds-hold-count : goal.slice_bounds-hold-count
slice_bounds-hold-count c = (went (goal.at.slice_bounds-hold-count c).In-Going).2

pub slice_bounds-hold-start : goal.slice_bounds-hold-start
slice_bounds-hold-start c = (went (goal.at.slice_bounds-hold-start c).In-Going).2

pub hold-rest-requires : goal.hold-rest-requires
hold-rest-requires c =
    let at = gone c.requires.way (went (goal.at.hold-rest-requires c).In-Going).0 in
    record { bytes = omega (arith, c.requires.bytes, at.room); quote = at.quote }

pub returns-in-LineEnded : goal.returns-in-LineEnded
returns-in-LineEnded c =
    stops_line c.requires.way c.items.invariant.further c.items.invariant.goes (some_bytes _ (sym c.is_empty.ensures ∙ c.items-test.true)) _ _ c.step.ensures
    c.in-LineEnded.is

pub returns-in-Waits : goal.returns-in-Waits
returns-in-Waits c = stops_waiting c.requires.way c.items.invariant.further c.items.invariant.goes _ _ c.step.ensures c.in-Waits.is

pub returns-in-Wrong : goal.returns-in-Wrong
returns-in-Wrong c =
    stops_wrong c.requires.way c.items.invariant.further c.items.invariant.goes (some_bytes _ (sym c.is_empty.ensures ∙ c.items-test.true)) _ _ c.step.ensures
    c.in-Wrong.is

pub returns-then-is_in_code : goal.returns-then-is_in_code
returns-then-is_in_code c =
    let to = goal.at.returns-then-is_in_code c in
    let at = held to.After-hold-rest (went to.In-Going) in
    let on = gone c.requires.way at.goes in
    record {
      code = sym c.is_in_code.ensures ∙ c.if-is_in_code.true;
      len = c.hold-rest.new.self.stop - c.args.self.now.stop;
      some = omega (arith, at.further);
      within = omega (arith, on.room);
      stop = omega (arith, at.further);
      reached = λ m whole start r. subst (Reached m whole c.hold-rest.new.self) (on.there (omega (arith, at.further))) (at.goes m whole start r);
    }

pub items-smaller : goal.items-smaller
items-smaller c =
    let to = goal.at.items-smaller c in
    (held to.After-hold-rest (went to.In-Going)).smaller

pub items-preserved : goal.items-preserved
items-preserved c =
    let to = goal.at.items-preserved c in
    let at = held to.After-hold-rest (went to.In-Going) in
    record { goes = at.goes; further = omega (arith, at.further) }

pub returns : goal.returns
returns c =
    stops_text c.requires.way c.items.invariant.further c.items.invariant.goes
    (nil_from_length c.items.rest.now (eqb-true _ 0 (sym c.is_empty.ensures ∙ c.items-test.false)))
