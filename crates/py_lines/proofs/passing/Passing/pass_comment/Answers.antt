use Rattle.py_lines.proofs.Prelude.{◌<◌, ◌∙◌, arith, length, sym, true, false, refl, slice_index, low_scalar, both_ways, is_break, is_hash}
use Rattle.py_lines.proofs.PassedPieces.Reads.{comment_begun, comment_item, comment_passed, reads_on}
use Rattle.py_lines.proofs.passing.Passing.pass_comment.Goals as goal

pub specials-init : goal.specials-init
specials-init c = comment_begun (c.next-end.ensures _ (c.requires.next.rest c.requires.within))

pub specials-smaller : goal.specials-smaller
specials-smaller c =
    let next = c.next-end-in-specials.ensures _ (c.specials.invariant.next.rest c.specials-test.true) in
    omega (arith, next.after, next.within, c.specials-test.true)

pub specials-preserved : goal.specials-preserved
specials-preserved c =
    let marked = c.specials.invariant.next.rest c.specials-test.true in
    let is = sym c.is_line_byte.ensures ∙ c.if-is_line_byte.true in
    reads_on c.specials.invariant (comment_item c.specials-test.true marked is) (c.next-end-in-specials.ensures _ marked)

pub returns : goal.returns
unfolding is_break is_hash
returns c =
    let bytes = c.args.bytes.now in
    let at = c.args.at in
    let end = c.specials.end in
    let read = c.specials.invariant in
    let within : end < length bytes = omega (arith, c.if-end-bytes.false) in
    let ends = sym c.is_break.ensures ∙ c.if-not-is_break.false in
    record {
      passed = λ _ place b. comment_passed bytes at end c.specials.marks c.args.self.now _ b place c.requires.next read within
          c.requires.hash ends (c.keep.ensures bytes (within, read.next.special within) (read.next.rest within));
      same = λ h. absurd (both_ways true h refl);
    }

pub char-bytes : goal.char-bytes
char-bytes c = low_scalar (slice_index c.args.bytes.now c.specials.end) (omega (arith, c.type_inv.bytes c.specials.end))

pub returns-then-end-bytes : goal.returns-then-end-bytes
returns-then-end-bytes c = record { passed = λ so. absurd (both_ways false refl so); same = λ _. refl }

pub keep-requires : goal.keep-requires
keep-requires c =
    let held = c.specials.invariant.next.held (omega (arith, c.if-end-bytes.false)) in
    record { base = held.0; reach = held.1 }

pub next-end-requires-in-specials : goal.next-end-requires-in-specials
next-end-requires-in-specials c = grind arith
