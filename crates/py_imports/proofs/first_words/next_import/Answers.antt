-- Where no word begins, no import statement begins.
use Rattle.std.proofs.Common.{inl, inr, arith}
use Rattle.py_imports.specs.FirstWords.{ImportMayBegin}
use Rattle.py_imports.proofs.WordPlaces.{one_more, passed_words}
use Rattle.py_imports.proofs.first_words.next_import.Goals as goal

pub words-init : goal.words-init
words-init c = record { further = omega arith; within = c.requires; none = λ k low high. absurd (omega (arith, low, high)) }

pub import_may_begin-requires-clause-start : goal.import_may_begin-requires-clause-start
import_may_begin-requires-clause-start c = omega (arith, c.words.invariant.further, c.next_word-place.ensures.further)

pub returns-then-import_may_begin : goal.returns-then-import_may_begin
returns-then-import_may_begin c =
    let next = c.next_word-place in
    record {
      none = passed_words c.args.text.now c.args.start c.words.place next.result c.words.invariant.none next.ensures.none;
      first = inr (c.import_may_begin.ensures.yes (c.if-import_may_begin.true));
      further = omega (arith, c.words.invariant.further, next.ensures.further);
      within = omega (arith, next.ensures.within);
    }

pub words-preserved : goal.words-preserved
words-preserved c =
    let next = c.next_word-place in
    record {
      further = omega (arith, c.words.invariant.further, next.ensures.further);
      within = omega (arith, next.ensures.within);
      none = one_more (ImportMayBegin c.args.text.now c.args.start) c.args.start next.result (passed_words c.args.text.now c.args.start c.words.place next.result c.words.invariant.none next.ensures.none) (c.import_may_begin.ensures.no c.if-import_may_begin.false);
    }

pub returns : goal.returns
returns c = record { none = c.words.invariant.none; first = inl (omega (arith, c.words.invariant.within, c.words-test.false)); further = c.words.invariant.further; within = c.words.invariant.within }
