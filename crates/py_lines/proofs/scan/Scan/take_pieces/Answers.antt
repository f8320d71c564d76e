use Rattle.py_lines.proofs.Prelude.{◌≡◌, ◌+◌, ◌-◌, ◌≤◌, ◌∙◌, ap, arith, drop, length, refl, sym, take, Scan}
use Rattle.py_lines.specs.Private.Scan.{Takes, passed}
use Rattle.py_lines.specs.Private.TakenPieces.{IsOperatorEnd, IsWordStart, TakesOn}
use Rattle.py_lines.proofs.PassedPieces.Ends.{in_code, passes_none}
use Rattle.py_lines.proofs.PassedPieces.BracketFeeds.{finds_further, passes_feeds}
use Rattle.py_lines.proofs.PassedPieces.Pieces.{HasPassed, operator_left, passes_left, passes_line, passes_next, word_left}
use Rattle.py_lines.proofs.scan.Scan.take_pieces.Goals.{In-specials, Joined-at-bytes, Left-specials, else-specials-test, then-at-bytes, then-specials-test+in-Unpassed, else-at-bytes}
use Rattle.py_lines.proofs.scan.Scan.take_pieces.Goals as goal

pub specials-init : goal.specials-init
specials-init c =
    let code = in_code c.args.self.now c.requires.code in
    rw c.new-passing.ensures.nothing (
      record {
        same = refl;
        outside = code.1;
        takes = passes_none c.args.self.now c.args.bytes.now code.0;
        next = c.next-at.ensures 0 c.new-passing.ensures.marked;
      },
      omega arith,
    )

pub next-at-requires : goal.next-at-requires
next-at-requires c = omega (arith, c.new-passing.ensures.marked.base)

-- where the scan stood before the bytes
stop : (c : In-specials) → c.specials.self.stop ≡ c.args.self.now.stop
stop c = ap (λ (s : Scan). s.stop) c.specials.invariant.0.same

pub overflow_add-self : goal.overflow_add-self
overflow_add-self c = omega (arith, stop (goal.at.overflow_add-self c).In-specials, c.specials-test.true, c.requires.bytes)

pub pass-requires : goal.pass-requires
pass-requires c = record { next = c.specials.invariant.0.next; within = c.specials-test.true; counted = c.specials.invariant.1 }

pub next-at-requires-in-Passed : goal.next-at-requires-in-Passed
next-at-requires-in-Passed c = let marked = c.in-Passed.ensures.marked in omega (arith, marked.base, marked.within)

pub next-at-requires-in-Passed-2 : goal.next-at-requires-in-Passed-2
next-at-requires-in-Passed-2 c = record { counted = c.in-Passed.ensures.counted ∙ c.specials.invariant.1; marked = c.in-Passed.ensures.marked }

pub pass-requires-in-LineEnd : goal.pass-requires-in-LineEnd
pass-requires-in-LineEnd c = omega (arith, stop (goal.at.pass-requires-in-LineEnd c).In-specials, c.in-LineEnd.ensures.within, c.requires.bytes)

pub specials-smaller-then-is_empty : goal.specials-smaller-then-is_empty
specials-smaller-then-is_empty c =
    let on = c.in-Passed.ensures in
    let next = c.next-at-in-Passed.ensures c.pass.new.self.all on.marked in
    omega (arith, on.further, next.after, next.within, c.specials-test.true)

pub specials-preserved-then-is_empty : goal.specials-preserved-then-is_empty
specials-preserved-then-is_empty c = (
  passes_next _ _ _ _ _ c.specials.invariant.0 c.pass.new.frames c.pass.new.self c.next-at-in-Passed.result c.next-at-in-Passed.new.self
      c.in-Passed.ensures (c.next-at-in-Passed.ensures c.pass.new.self.all c.in-Passed.ensures.marked),
  c.in-Passed.ensures.counted ∙ c.specials.invariant.1,
)

pub specials-smaller : goal.specials-smaller
specials-smaller c =
    let further = finds_further _ _ _ _ _ _ _ _ _ c.specials.invariant.0 c.in-Passed.ensures c.next-at-in-Passed-2.ensures in
    omega (arith, further.0, further.1, c.specials-test.true)

pub specials-preserved : goal.specials-preserved
specials-preserved c =
    passes_feeds _ _ _ _ _ _ _ _ _ c.specials.invariant.0 c.in-Passed.ensures c.next-at-in-Passed-2.ensures (sym c.is_empty.ensures ∙ c.if-is_empty.false)
    (c.in-Passed.ensures.counted ∙ c.specials.invariant.1)

pub returns-in-LineEnd : goal.returns-in-LineEnd
returns-in-LineEnd c = (
  c.specials.at,
  passes_line _ _ _ _ _ c.specials.invariant.0 c.in-LineEnd.len c.pass-in-LineEnd.new.self c.pass.new.self c.pass.new.frames
      c.in-LineEnd.ensures c.pass-in-LineEnd.ensures,
)

-- after the last byte that was passed
last : (c : Left-specials) → HasPassed c.args.self.now c.args.bytes.now c.specials.at c.specials-test.self c.specials-test.passing
last c = elim c.specials-test.branch [
  | else-specials-test w ↦ rw (w.self-is, w.passing-is) c.specials.invariant.0
  | then-specials-test+in-Unpassed w ↦
      let (same, kept) = w.in-Unpassed.ensures in rw (w.self-is, w.passing-is, kept, same) c.specials.invariant.0
]

pub slice_bounds-plain-count : goal.slice_bounds-plain-count
slice_bounds-plain-count c = (last c).next.after

pub slice_bounds-plain-start : goal.slice_bounds-plain-start
slice_bounds-plain-start c = (last c).next.after

-- and after the plain bytes that are finished
left : (c : Joined-at-bytes) → TakesOn c.args.bytes.now c.args.self.now 0 (passed c.specials-test.self (c.specials-test.passing.all + c.if-at-bytes.finished))
    (c.specials-test.passing.all + c.if-at-bytes.finished)
left c =
    let bytes = c.args.bytes.now in
    let at = c.specials.at in
    let scan = c.specials-test.self in
    let p = c.specials-test.passing in
    let on = last (goal.at.Joined-at-bytes c).Left-specials in
    let k = c.if-at-bytes.finished in
    let plain = take (at - p.all) (drop p.all bytes) in
    let here : Scan = passed scan p.all in
    let (fits, takes) : (k ≤ length plain) × Takes here (drop p.all bytes) k (passed here k) = elim c.if-at-bytes.branch [
      | then-at-bytes w ↦
          let start : IsWordStart plain k = rw w.finished-is w.word_start-finished.ensures in
          (start.within, word_left here refl on.outside bytes p.all at p.marks on.next k w.if-at-bytes.true start)
      | else-at-bytes w ↦
          let end : IsOperatorEnd plain k = rw w.finished-is w.last_operator_end-finished.ensures in
          (end.0, operator_left here refl on.outside bytes p.all at p.marks on.next k end)
    ] in
    passes_left c.args.self.now bytes at scan p on k fits takes

pub overflow_add-passing : goal.overflow_add-passing
overflow_add-passing c = omega (arith, (left (goal.at.overflow_add-passing c).Joined-at-bytes).within, c.requires.bytes)

pub pass-requires-2 : goal.pass-requires-2
pass-requires-2 c =
    let same = (last (goal.at.pass-requires-2 c).Left-specials).same in
    omega (arith, ap (λ (s : Scan). s.stop) same, (left (goal.at.pass-requires-2 c).Joined-at-bytes).within, c.requires.bytes)

pub returns : goal.returns
returns c =
    let same = (last (goal.at.returns c).Left-specials).same in (
      c.specials-test.passing.all + c.if-at-bytes.finished,
      rw c.pass-2.ensures (left (goal.at.returns c).Joined-at-bytes),
      omega (arith, ap (λ (s : Scan). s.stop) c.pass-2.ensures, ap (λ (s : Scan). s.stop) same),
    )
