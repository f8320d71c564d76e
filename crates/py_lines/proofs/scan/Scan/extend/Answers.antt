use Rattle.py_lines.proofs.Prelude.{◌≤◌, ◌-◌, arith}
use Rattle.py_lines.proofs.LineScan.LineStops.{ComesAlong, comes_along, gone}
use Rattle.py_lines.proofs.LineScan.Reaching.{ends_over, reached_over}
use Rattle.py_lines.proofs.scan.Scan.extend.Goals as goal
use Rattle.py_lines.proofs.scan.Scan.extend.Goals.{Joined-is_in_code, else-is_in_code, then-is_in_code+in_default}

-- where the scan has come after pieces of code, if it stood in code
come : (c : Joined-is_in_code) → ComesAlong c.args.self.now c.args.bytes.now c.if-is_in_code.self × (c.pieces.self.stop ≤ c.if-is_in_code.self.stop)
come c =
    let at = c.pieces.invariant in
    elim c.if-is_in_code.branch [
      | then-is_in_code+in_default w ↦
          let (len, on, stop) = w.in_default.ensures in
          rw w.self-is (
            comes_along c.requires.way (omega (arith, at.further, stop)) (λ m whole start r. reached_over (at.goes m whole start r) _ (len - 0) on.takes),
            omega (arith, stop),
          )
      | else-is_in_code w ↦ rw w.self-is (at, omega arith)
    ]

pub pieces-init : goal.pieces-init
pieces-init c = comes_along c.requires.way (omega arith) (λ m whole start r. r)

pub returns-in-Some : goal.returns-in-Some
returns-in-Some c = let (before, ends) = c.in-Some.ensures in record {
  stops = λ m whole start r. ends_over start (c.pieces.invariant.goes m whole start r) c.take_pieces.new.self before c.in-Some.len ends;
}

pub overflow_sub-self-in-pieces : goal.overflow_sub-self-in-pieces
overflow_sub-self-in-pieces c = (come (goal.at.overflow_sub-self-in-pieces c).Joined-is_in_code).0.further

pub slice_bounds-take_items-count : goal.slice_bounds-take_items-count
slice_bounds-take_items-count c = (come (goal.at.slice_bounds-take_items-count c).Joined-is_in_code).0.within

pub slice_bounds-take_items-start : goal.slice_bounds-take_items-start
slice_bounds-take_items-start c = (come (goal.at.slice_bounds-take_items-start c).Joined-is_in_code).0.within

pub take_items-requires : goal.take_items-requires
take_items-requires c =
    let at = gone c.requires.way (come (goal.at.take_items-requires c).Joined-is_in_code).0.goes in
    record { way = at.way; bytes = omega (arith, at.room, c.requires.bytes) }

pub returns-in-Some-take_items : goal.returns-in-Some-take_items
returns-in-Some-take_items c = record {
  stops = λ m whole start r.
      c.in-Some-take_items.ensures.scans m whole start ((come (goal.at.returns-in-Some-take_items c).Joined-is_in_code).0.goes m whole start r);
}

pub pieces-preserved : goal.pieces-preserved
pieces-preserved c =
    let at = (come (goal.at.pieces-preserved c).Joined-is_in_code).0 in
    let to = c.in_default-take_items.ensures in
    comes_along c.requires.way (omega (arith, at.further, to.stop)) (λ m whole start r. to.reached m whole start (at.goes m whole start r))

pub pieces-smaller : goal.pieces-smaller
pieces-smaller c =
    let to = c.in_default-take_items.ensures in
    omega (arith, (come (goal.at.pieces-smaller c).Joined-is_in_code).1, to.stop, to.some, (pieces-preserved c).within, (pieces-preserved c).further)

pub take_pieces-requires-clause-bytes : goal.take_pieces-requires-clause-bytes
take_pieces-requires-clause-bytes c = grind arith
