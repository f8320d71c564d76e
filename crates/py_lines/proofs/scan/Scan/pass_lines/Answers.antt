use Rattle.py_lines.proofs.Prelude.{◌≡◌, ◌+◌, ◌-◌, ◌≤◌, ◌∙◌, List, ℕ, ap, arith, drop, length, length-drop, length-take, refl, sym, take, take_rest, line_ends, Passing, Scan, nat_tests}
use Rattle.py_lines.specs.Private.Mode as modes
use Rattle.py_lines.specs.Private.Passing.{IsCounted, nothing_passed}
use Rattle.py_lines.proofs.LineScan.FeedLines.{FindsOn, finds_on}
use Rattle.py_lines.proofs.LineScan.WholeLines.{HasPassedLines, PassesOn, end_within, ends_of_lines, items_within, no_line_passed, passes_end, passes_items, passes_special, reached_word, unpassed}
use Rattle.py_lines.proofs.scan.Scan.pass_lines.Goals.{After-line_ends_up_to-last, After-next-at-in-specials, After-word_start, In-None, In-Some-LineEnd, In-Unpassed, Joined-pass, Left-specials, else-specials-test, in-Passed, in-Unpassed+in-None, in-Unpassed+in-Some-LineEnd, then-specials-test+in-Unpassed+in-Some}
use Rattle.py_lines.proofs.scan.Scan.pass_lines.Goals as goal

none_counted : (bytes : List ℕ) (p : Passing) → p ≡ nothing_passed p.marks → IsCounted bytes p
none_counted bytes p is = rw is (omega arith)

pub next-at-requires : goal.next-at-requires
next-at-requires c = record {
  counted = none_counted _ _ c.new-passing.ensures.nothing;
  marked = rw c.new-passing.ensures.nothing c.new-passing.ensures.marked;
}

pub specials-init : goal.specials-init
specials-init c =
    (finds_on (rw (c.restart.ensures, c.new-passing.ensures.nothing) (no_line_passed c.args.bytes.now))
    (none_counted _ _ c.new-passing.ensures.nothing) c.next-at.ensures).on

pub overflow_sub-at : goal.overflow_sub-at
overflow_sub-at c = omega (arith, c.specials.invariant.have.before, c.specials.invariant.next.after)

pub pass-requires : goal.pass-requires
pass-requires c = record { next = c.specials.invariant.next; within = c.specials-test.true; counted = c.specials.invariant.counted }

-- nothing was passed at the byte
there : (c : In-Unpassed) → HasPassedLines c.args.bytes.now c.pass.new.frames c.specials.at c.pass.new.self
there c = unpassed c.specials.invariant c.in-Unpassed.ensures

same_line : (c : In-Unpassed) → c.specials.passing.lines ≡ c.pass.new.self.lines
same_line c = ap (λ (p : Passing). p.lines) (sym c.in-Unpassed.ensures.0)

pub slice_bounds-word_start-count : goal.slice_bounds-word_start-count
slice_bounds-word_start-count c = (there c).next.after

pub slice_bounds-word_start-start : goal.slice_bounds-word_start-start
slice_bounds-word_start-start c = (there c).next.after

-- items are taken from there on
from : (c : After-word_start) → c.pass.new.self.all + c.word_start.result ≤ c.specials.at
from c =
    let start = c.word_start.ensures in
    omega (arith, start.within, (there (goal.at.After-word_start c).In-Unpassed).next.after, length-take (c.specials.at - c.pass.new.self.all) (drop c.pass.new.self.all c.args.bytes.now))

pub overflow_add-from : goal.overflow_add-from
overflow_add-from c = omega (arith, from c, c.specials.auto.at-fits)

pub overflow_sub-from : goal.overflow_sub-from
overflow_sub-from c =
    let at = (goal.at.overflow_sub-from c).In-Unpassed in
    omega (arith, (there at).have.before, same_line at)

pub slice_bounds-take_items-count : goal.slice_bounds-take_items-count
slice_bounds-take_items-count c = omega (arith, from (goal.at.slice_bounds-take_items-count c).After-word_start, c.specials-test.true)

pub slice_bounds-take_items-start : goal.slice_bounds-take_items-start
slice_bounds-take_items-start c = omega (arith, from (goal.at.slice_bounds-take_items-start c).After-word_start, c.specials-test.true)

pub take_items-requires : goal.take_items-requires
take_items-requires c = record {
  way =
      let at = (goal.at.take_items-requires c).In-Unpassed in
      let reached = reached_word (there at) c.specials-test.true (same_line at) c.word_start.ensures c.pass-in-Unpassed.ensures in
      (modes.Free, drop c.specials.passing.lines c.args.bytes.now, refl, reached);
  bytes =
      let from_there = c.pass.new.self.all + c.word_start.result in
      let rest = ap length (take_rest c.args.bytes.now from_there) ∙ length-drop from_there c.args.bytes.now in
      omega (arith, ap (λ (s : Scan). s.stop) c.pass-in-Unpassed.ensures, rest, from (goal.at.take_items-requires c).After-word_start, c.specials-test.true, c.well_formed);
}

-- items that were taken lie within the bytes
taken : (c : In-None) → (c.pass.new.self.all ≤ c.specials.passing.lines + c.take_items.new.self.stop)
    × (c.specials.passing.lines + c.take_items.new.self.stop ≤ length c.args.bytes.now)
taken c =
    let at = (goal.at.In-None c).In-Unpassed in
    items_within (there at) c.specials-test.true (same_line at) c.word_start.ensures c.pass-in-Unpassed.ensures c.in-None.ensures

pub overflow_add-start : goal.overflow_add-start
overflow_add-start c = omega (arith, (taken (goal.at.overflow_add-start c).In-None).1, c.well_formed)

pub pass_to-requires : goal.pass_to-requires
pass_to-requires c =
    let within = taken (goal.at.pass_to-requires c).In-None in
    record { counted = (there (goal.at.pass_to-requires c).In-Unpassed).counted; further = within.0; within = within.1 }

-- and so do those that end a line
ended : (c : In-Some-LineEnd) → (c.pass.new.self.all ≤ c.specials.passing.lines + c.take_items.new.self.stop)
    × (c.specials.passing.lines + c.take_items.new.self.stop ≤ length c.args.bytes.now)
ended c =
    let at = (goal.at.In-Some-LineEnd c).In-Unpassed in
    end_within (there at) c.specials-test.true (same_line at) c.word_start.ensures c.pass-in-Unpassed.ensures c.in-Some-LineEnd.field-0-is c.in-Some-LineEnd.ensures

pub overflow_add-start-in-Some-LineEnd : goal.overflow_add-start-in-Some-LineEnd
overflow_add-start-in-Some-LineEnd c = omega (arith, (ended (goal.at.overflow_add-start-in-Some-LineEnd c).In-Some-LineEnd).1, c.well_formed)

pub pass_to-requires-in-Some-LineEnd : goal.pass_to-requires-in-Some-LineEnd
pass_to-requires-in-Some-LineEnd c =
    let within = ended (goal.at.pass_to-requires-in-Some-LineEnd c).In-Some-LineEnd in
    record { counted = (there (goal.at.pass_to-requires-in-Some-LineEnd c).In-Unpassed).counted; further = within.0; within = within.1 }

-- what one more byte that isn't plain comes to
came : (c : Joined-pass) → PassesOn c.args.bytes.now c.specials.passing c.match-pass.self.frames c.match-pass.passing
came c =
    elim c.match-pass.branch [
      | in-Passed w ↦
          rw (w.self-is, w.passing-is) (passes_special c.specials.invariant c.specials-test.true w.in-Passed.is c.pass.ensures)
      | in-Unpassed+in-None w ↦
          let same = w.in-Unpassed.ensures in
          rw (w.self-is, w.passing-is, sym same.0)
          (passes_items (unpassed c.specials.invariant same) c.specials-test.true (ap (λ (p : Passing). p.lines) (sym same.0)) w.word_start.ensures
          w.pass-in-Unpassed.ensures w.pass_to.ensures.passed w.pass_to.ensures.counted w.pass_to.ensures.marked w.in-None.ensures)
      | in-Unpassed+in-Some-LineEnd w ↦
          let same = w.in-Unpassed.ensures in
          rw (w.self-is, w.passing-is, sym same.0)
          (passes_end (unpassed c.specials.invariant same) c.specials-test.true (ap (λ (p : Passing). p.lines) (sym same.0)) w.word_start.ensures
          w.pass-in-Unpassed.ensures w.in-Some-LineEnd.field-0-is w.in-Some-LineEnd.ensures w.clear.ensures w.pass_to-in-Some-LineEnd.ensures.passed
          w.pass_to-in-Some-LineEnd.ensures.counted w.pass_to-in-Some-LineEnd.ensures.marked)
    ]

pub next-at-requires-in-specials : goal.next-at-requires-in-specials
next-at-requires-in-specials c =
    let on = came (goal.at.next-at-requires-in-specials c).Joined-pass in
    record { counted = on.counted; marked = on.marked }

found : (c : After-next-at-in-specials)
    → FindsOn c.args.bytes.now c.match-pass.self.frames c.match-pass.passing c.next-at-in-specials.result c.next-at-in-specials.new.self
found c =
    let on = came (goal.at.After-next-at-in-specials c).Joined-pass in
    finds_on on.have on.counted c.next-at-in-specials.ensures

pub specials-smaller : goal.specials-smaller
specials-smaller c = omega (arith, (found c).further, (came (goal.at.specials-smaller c).Joined-pass).smaller)

pub specials-preserved : goal.specials-preserved
specials-preserved c = (found c).on

-- after the last byte that was passed
last : (c : Left-specials) → HasPassedLines c.args.bytes.now c.specials.self.frames c.specials.at c.specials-test.passing
last c = elim c.specials-test.branch [
  | else-specials-test w ↦ rw w.passing-is c.specials.invariant
  | then-specials-test+in-Unpassed+in-Some w ↦ rw (w.passing-is, w.in-Unpassed.ensures.0) c.specials.invariant
]

pub slice_bounds-line_ends_up_to-count : goal.slice_bounds-line_ends_up_to-count
slice_bounds-line_ends_up_to-count c = (last c).have.are.within

pub slice_bounds-line_ends_up_to-start : goal.slice_bounds-line_ends_up_to-start
slice_bounds-line_ends_up_to-start c = (last c).have.are.within

pub overflow_sub-passing : goal.overflow_sub-passing
overflow_sub-passing c = (last (goal.at.overflow_sub-passing c).Left-specials).have.before

pub line_ends_up_to-last-requires : goal.line_ends_up_to-last-requires
line_ends_up_to-last-requires c =
    let on = last (goal.at.line_ends_up_to-last-requires c).Left-specials in
    let from = c.specials-test.passing.lines in
    omega (arith, ap length (take_rest c.args.bytes.now from) ∙ length-drop from c.args.bytes.now, on.next.after, on.next.within)

-- those that were counted
counted : (c : After-line_ends_up_to-last)
    → c.specials-test.passing.ends ≡ line_ends (take c.specials-test.passing.lines c.args.bytes.now) + c.line_ends_up_to-last.result
counted c =
    ends_of_lines (last (goal.at.After-line_ends_up_to-last c).Left-specials) c.line_ends_up_to-last.result
    (rw (take_rest c.args.bytes.now c.specials-test.passing.lines) at c.line_ends_up_to-last.ensures)

pub overflow_sub-result : goal.overflow_sub-result
overflow_sub-result c = omega (arith, counted c)

pub returns : goal.returns
returns c = record { lines = (last (goal.at.returns c).Left-specials).have.are; ends = omega (arith, counted c) }

pub pass-requires-in-Unpassed : goal.pass-requires-in-Unpassed
pass-requires-in-Unpassed c = grind (arith, nat_tests)
