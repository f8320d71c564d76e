use Rattle.std.proofs.lemmas.Grind.{common_steps}
use mir.Val.{bool_byte}
use Rattle.py_lines.proofs.Prelude.{◌≤◌, ℕ, Bool, true, false, arith, drop, length-drop, subst}
use Rattle.py_lines.specs.Private.LineTokens.{HaveReadAnyway, ReadsAnyway}
use Rattle.py_lines.proofs.LineTokens.Anyway.{piece_read, reads_on, space_on}
use Rattle.py_lines.proofs.simple_line.read_up_to.Goals as goal
use Rattle.py_lines.proofs.simple_line.read_up_to.Goals.{In-Some}

-- the piece that was read
read : (c : In-Some) → ReadsAnyway (drop c.pieces.at c.args.bytes.now) c.pieces.tokens.items c.pieces.at c.pieces.line_here c.in-Some.len c.in-Some.ends
    c.read_anyway.new.tokens.items
read c = piece_read _ c.in-Some.is c.in_ok-len.ensures

pub pieces-preserved : goal.pieces-preserved
pieces-preserved c =
    let (more, few, reads) = c.pieces.invariant in
    let r = read (goal.at.pieces-preserved c).In-Some in (
      omega (arith, more),
      omega (arith, few, r.few),
      λ first h. space_on (reads_on (reads first h) r) c.starts_with.result c.starts_with.ensures.value,
    )

pub returns-then-at-to : goal.returns-then-at-to
returns-then-at-to c =
    let (more, few, reads) = c.pieces.invariant in
    record {
      further = omega (arith, more, c.if-at-to.true);
      few = omega (arith, few, c.if-at-to.true);
      reads = λ first h. subst (λ (k : ℕ). HaveReadAnyway c.args.bytes.now first k c.pieces.line_here c.pieces.tokens.items) c.if-at-to.true (reads first h);
    }

pub overflow_add-at : goal.overflow_add-at
overflow_add-at c = omega (arith, (read c).within, length-drop c.pieces.at c.args.bytes.now, c.pieces-test.true, c.requires.within, c.well_formed)

pub overflow_add-line_here : goal.overflow_add-line_here
overflow_add-line_here c =
    let r = read c in
    omega (arith, c.pieces.invariant.0, c.pieces.invariant.1, r.few, r.within, length-drop c.pieces.at c.args.bytes.now, c.pieces-test.true, c.requires.within, c.requires.lines)

one_at_most : (is : Bool) → bool_byte is ≤ 1
one_at_most false = omega arith
one_at_most true = omega arith

pub overflow_add-at-in-pieces : goal.overflow_add-at-in-pieces
overflow_add-at-in-pieces c =
    let r = read (goal.at.overflow_add-at-in-pieces c).In-Some in
    omega (arith, r.within, length-drop c.pieces.at c.args.bytes.now, c.pieces-test.true, c.requires.within, c.well_formed, one_at_most c.starts_with.result)

pub pieces-smaller : goal.pieces-smaller
pieces-smaller c = omega (arith, (read (goal.at.pieces-smaller c).In-Some).some, c.pieces-test.true)

pub slice_bounds-starts_with-count : goal.slice_bounds-starts_with-count
slice_bounds-starts_with-count c = grind (arith, common_steps)

pub slice_bounds-starts_with-start : goal.slice_bounds-starts_with-start
slice_bounds-starts_with-start c = grind (arith, common_steps)
