use Rattle.py_lines.proofs.Prelude.{encode_utf8_all, ◌-◌, length, take, drop, sym, ap, ◌∙◌, arith, length-drop, ◌≤◌, length-append, take_rest, Scan}
use Rattle.py_lines.specs.Private.Scan.{GoesOver}
use Rattle.py_lines.proofs.LineTokens.FirstString.{InFirst, at_start, first_run, first_stands, item_over, passed_with, some_left, step_comes, step_on, stops_there, string_within}
use Rattle.py_lines.proofs.scan.Scan.take_first.Goals as goal
use Rattle.py_lines.proofs.scan.Scan.take_first.Goals.{Else-is_in_code}

pub items-init : goal.items-init
items-init c = record { first = at_start c.args.bytes.now c.requires.start }

pub step-requires : goal.step-requires
step-requires c =
    let (p, is, begin) = c.requires.string in
    let stands = first_stands c.items.invariant.first in
    record { some = some_left c.items.invariant.first p is begin; bytes = omega (arith, c.requires.bytes, stands.room); quote = stands.quote }

pub pass-requires : goal.pass-requires
pass-requires c =
    let (p, is, begin) = c.requires.string in
    let at = c.items.invariant.first in
    let comes = step_comes at (some_left at p is begin) c.step.result c.step.new.self c.step.ensures in
    let stop = stops_there at p is begin c.step.result c.step.new.self comes c.in_default.not-Going in
    omega (arith, c.requires.bytes, stop, string_within c.args.bytes.now p begin)

pub returns-in_default : goal.returns-in_default
returns-in_default c p is begin =
    let at = c.items.invariant.first in
    let comes = step_comes at (some_left at p is begin) c.step.result c.step.new.self c.step.ensures in
    ap (λ (s : Scan). s.stop) c.pass.ensures ∙ stops_there at p is begin c.step.result c.step.new.self comes c.in_default.not-Going

pub returns-then-is_in_code : goal.returns-then-is_in_code
returns-then-is_in_code c p is begin =
    let at = c.items.invariant.first in
    let over = item_over at (some_left at p is begin) c.step.result c.in-Going.len c.step.new.self c.step.ensures c.in-Going.is in
    passed_with at over p is begin (sym c.is_in_code.ensures ∙ c.if-is_in_code.true)

-- the item that was taken, after which the string goes on
over : (c : Else-is_in_code) → GoesOver c.items.invariant.first.reached.way.field c.items.rest.now c.in-Going.len c.step.new.self
over c =
    let (p, is, begin) = c.requires.string in
    let at = c.items.invariant.first in
    item_over at (some_left at p is begin) c.step.result c.in-Going.len c.step.new.self c.step.ensures c.in-Going.is

goes : (c : Else-is_in_code) → InFirst c.args.bytes.now c.step.new.self (drop c.in-Going.len c.items.rest.now)
goes c = step_on c.items.invariant.first (over c) (sym c.is_in_code.ensures ∙ c.if-is_in_code.false)

within : (c : Else-is_in_code) → c.in-Going.len ≤ length c.items.rest.now
within c =
    let item = over c in
    omega (arith, item.size, ap length item.spell, length-append (encode_utf8_all item.run) (drop c.in-Going.len c.items.rest.now))

pub slice_bounds-hold-count : goal.slice_bounds-hold-count
slice_bounds-hold-count c = within (goal.at.slice_bounds-hold-count c).Else-is_in_code

pub slice_bounds-hold-start : goal.slice_bounds-hold-start
slice_bounds-hold-start c = within (goal.at.slice_bounds-hold-start c).Else-is_in_code

pub hold-rest-requires : goal.hold-rest-requires
hold-rest-requires c =
    let stands = first_stands (goes (goal.at.hold-rest-requires c).Else-is_in_code) in
    record { bytes = omega (arith, c.requires.bytes, stands.room, ap length (take_rest c.items.rest.now c.in-Going.len)); quote = stands.quote }

pub items-smaller : goal.items-smaller
items-smaller c =
    let (n, held, rest_is) = c.hold-rest.ensures in
    let len = c.in-Going.len in
    let rest = c.items.rest.now in
    let (p, is, begin) = c.requires.string in
    omega (
      arith,
      ap length rest_is,
      length-drop n (take (length rest - len) (drop len rest)),
      ap length (take_rest rest len),
      length-drop len rest,
      (over (goal.at.items-smaller c).Else-is_in_code).some,
      some_left c.items.invariant.first p is begin,
    )

pub items-preserved : goal.items-preserved
items-preserved c =
    let held = rw (take_rest c.items.rest.now c.in-Going.len) at c.hold-rest.ensures in
    record { first = first_run (goes (goal.at.items-preserved c).Else-is_in_code) held }
