-- The bits of a block tell where neither word begins.
use Rattle.std.proofs.Common.{◌+◌, ap, ◌∙◌, arith, w64}
use Rattle.std.proofs.lemmas.Nat.Bits.{bit_at-trailing_zeros, bit_at-zero}
use Rattle.py_imports.specs.Private.Gaps.{WordLetters}
use Rattle.std.specs.Int.{bit_at}
use Rattle.py_imports.proofs.WordPlaces.{none_below, nowhere_in_both}
use Rattle.py_imports.proofs.first_words.next_word.Goals as goal

pub letters-init : goal.letters-init
letters-init c = record { further = omega arith; within = c.requires; none = λ k low high. absurd (omega (arith, low, high)) }

pub overflow_sub-text : goal.overflow_sub-text
overflow_sub-text c = omega (arith, c.letters.invariant.within)

pub returns-then-words-ne0-clause-none : goal.returns-then-words-ne0-clause-none
returns-then-words-ne0-clause-none c =
    let set = c.words64-words in
    let lowest = bit_at-trailing_zeros w64 set.result (omega (arith, c.if-words-ne0.true)) set.type_inv in
    nowhere_in_both (WordLetters c.args.text.now) c.args.place c.letters.at _ c.letters.invariant.none (none_below c.args.text.now c.letters.at set.result _ set.ensures (omega (arith, lowest.0)) lowest.2)

pub returns-then-words-ne0-clause-further : goal.returns-then-words-ne0-clause-further
returns-then-words-ne0-clause-further c = omega (arith, c.letters.invariant.further)

pub letters-smaller : goal.letters-smaller
letters-smaller c = omega (arith, c.letters-test.true)

pub letters-preserved : goal.letters-preserved
letters-preserved c =
    let loop = c.letters in
    let set = c.words64-words in
    record {
      further = omega (arith, loop.invariant.further);
      within = omega (arith, c.letters-test.true);
      none =
          nowhere_in_both (WordLetters c.args.text.now) c.args.place loop.at (loop.at + 64) loop.invariant.none
          (none_below c.args.text.now loop.at set.result 64 set.ensures (omega arith) (λ k less. ap (λ bits. bit_at bits k) c.if-words-ne0.false ∙ bit_at-zero k));
    }

pub returns-clause-none : goal.returns-clause-none
returns-clause-none c = c.letters.invariant.none

pub returns-clause-further : goal.returns-clause-further
returns-clause-further c = c.letters.invariant.further

pub returns-clause-within : goal.returns-clause-within
returns-clause-within c = c.letters.invariant.within
