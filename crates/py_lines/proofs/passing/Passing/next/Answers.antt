use Rattle.py_lines.proofs.Prelude.{arith, subst, sym, ap}
use Rattle.py_lines.proofs.PassedPieces.Counts.{few_ends}
use Rattle.py_lines.specs.Private.Marks.{HasMarks}
use Rattle.py_lines.proofs.PassedPieces.LineFeeds.{base_kept, begins_there, block_next, block_passed, special_found, counted_so}
use Rattle.py_lines.proofs.passing.Passing.next.Goals as goal

pub feeds-init : goal.feeds-init
feeds-init c = block_passed (begins_there c.args.frames.now c.args.self.now c.requires.marked) _ (c.pass_feeds.ensures c.args.bytes.now)

pub feeds-smaller : goal.feeds-smaller
feeds-smaller c =
    let there = block_next c.feeds.invariant c.advance.new.self c.feeds-test.ensures.marks in
    omega (arith, base_kept _ _ _ _ _ (c.pass_feeds-in-feeds.ensures c.args.bytes.now there.from there.marked), c.feeds-test.ensures.base)

pub feeds-preserved : goal.feeds-preserved
feeds-preserved c = block_passed (block_next c.feeds.invariant c.advance.new.self c.feeds-test.ensures.marks) _ (c.pass_feeds-in-feeds.ensures c.args.bytes.now)

pub returns : goal.returns
returns c =
    special_found c.feeds.invariant c.next.result c.next.new.self
    (λ from has. c.next.ensures from (subst (HasMarks c.args.bytes.now from) (sym c.feeds-test.ensures.marks.0) has))

pub pass_feeds-requires : goal.pass_feeds-requires
pass_feeds-requires c =
    let marked = c.requires.marked in
    record {
      fits = omega (arith, marked.base, marked.within, c.well_formed);
      few = omega (arith, few_ends c.args.bytes.now c.args.self.now c.requires.counted, c.well_formed);
    }

pub advance-requires : goal.advance-requires
advance-requires c = let marked = c.feeds.invariant.marked in omega (arith, marked.base, marked.within)

pub pass_feeds-requires-in-feeds : goal.pass_feeds-requires-in-feeds
pass_feeds-requires-in-feeds c = record {
  fits = omega (arith, c.feeds-test.ensures.base, c.well_formed);
  few = omega (arith, few_ends c.args.bytes.now c.feeds.self (counted_so c.feeds.invariant c.requires.counted), c.well_formed);
}

pub next-requires : goal.next-requires
next-requires c =
    let marked = c.feeds.invariant.marked in
    omega (arith, marked.base, marked.within, ap (λ m. m.base) c.feeds-test.ensures.marks.0)
