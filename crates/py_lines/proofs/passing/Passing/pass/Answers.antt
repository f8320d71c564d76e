use Rattle.py_lines.specs.Private.Passing.{PassesSo}
use Rattle.py_lines.proofs.Prelude.{◌+◌, ◌∙◌, ◌≤◌, List, ℕ, ap, arith, drop, length, length-drop, refl, slice_index, subst, sym, low_scalar, both_ways, is_break, nat_tests, rest_is, rest_of, transport}
use Rattle.py_lines.specs.Private.LineEnds.{BeginsOuterEnd}
use Rattle.py_lines.proofs.FieldScans.LineEnds.{feed_breaks, return_breaks}
use Rattle.py_lines.proofs.PassedPieces.Counts.{few_ends, join_counts}
use Rattle.py_lines.proofs.PassedPieces.Items.{join_over}
use Rattle.py_lines.proofs.PassedPieces.Passed.{closing_passed, feed_begins, line_end_passed, opening_passed, passes_same}
use Rattle.py_lines.proofs.Text.CharacterTests.{feed_is, return_is}
use Rattle.py_lines.proofs.passing.Passing.pass.Goals.{in-Quote, in-Backslash+in-Some-outer_end_len, in-Hash, in-Opening, in-Closing, in_default-2, in_default-3, in_default}
use Rattle.py_lines.proofs.passing.Passing.pass.Goals as goal

-- the line end that stands there ends in the bytes
end_within : (bytes : List ℕ) (from len : ℕ) → from ≤ length bytes → BeginsOuterEnd (rest_of bytes from) len → from + len ≤ length bytes
end_within bytes from len there begins = omega (arith, begins.within, ap length (rest_is bytes from), length-drop from bytes, there)

pub returns-in-LineFeed : goal.returns-in-LineFeed
returns-in-LineFeed c =
    let bytes = c.args.bytes.now in
    let at = c.args.at in
    let is = feed_is (slice_index bytes at) c.in-LineFeed.ensures in
    rw (c.pass_line_end.ensures.special, c.pass_line_end.ensures.passed)
    (line_end_passed bytes at c.args.self.now c.requires.next c.requires.within 1 (ap is_break is ∙ feed_breaks.0)
    (feed_begins bytes at c.requires.within is) _ (c.requires.next.rest c.requires.within) c.args.place c.args.frames.now)

pub returns-in-Return : goal.returns-in-Return
returns-in-Return c =
    let bytes = c.args.bytes.now in
    let at = c.args.at in
    let len = c.in-Some.len in
    let breaks = ap is_break (return_is (slice_index bytes at) c.in-Return.ensures) ∙ return_breaks.0 in
    let ends = subst (λ (xs : List ℕ). BeginsOuterEnd xs len) (rest_is bytes at) c.in-Some.ensures in
    rw (c.pass_line_end-in-Return.ensures.special, c.pass_line_end-in-Return.ensures.passed)
    (line_end_passed bytes at c.args.self.now c.requires.next c.requires.within len breaks ends _
    (c.pass.ensures (at + 1) (c.requires.next.rest c.requires.within) (omega (arith, ends.some))) c.args.place c.args.frames.now)

pub returns-then-passed : goal.returns-then-passed
returns-then-passed c =
    let bytes = c.args.bytes.now in
    let at = c.args.at in
    let place = c.args.place in
    let old = c.args.self.now in
    let before = c.args.frames.now in
    let first = slice_index bytes at in
    let next = c.requires.next in
    let rest = next.rest c.requires.within in
    elim c.match-of.branch [
      | in-Quote w ↦ transport (λ i. PassesSo bytes at place old before (sym w.self-is i) (sym w.frames-is i)) (w.pass_string-passed.ensures.passed (sym w.passed-is ∙ c.if-passed.true) place)
      | in-Backslash+in-Some-outer_end_len w ↦
          let len = w.in-Some-outer_end_len.len in
          let ends = subst (λ (xs : List ℕ). BeginsOuterEnd xs len) (rest_is bytes (at + 1)) w.in-Some-outer_end_len.ensures in
          transport (λ i. PassesSo bytes at place old before (sym w.self-is i) (sym w.frames-is i)) (passes_same bytes at old next c.requires.within _ before (1 + len) place (omega arith)
          (omega (arith, ends.within, length-drop (at + 1) bytes, c.requires.within)) (omega arith) refl
          (omega (arith, join_counts bytes at len c.requires.within w.in-Backslash.ensures ends))
          (w.pass-in-Backslash.ensures (at + 1) rest (omega arith))
          (λ scan p frames. join_over p first (drop (at + 1) bytes) (next.special c.requires.within) len w.in-Backslash.ensures ends))
      | in-Hash w ↦ transport (λ i. PassesSo bytes at place old before (sym w.self-is i) (sym w.frames-is i)) (w.pass_comment-passed.ensures.passed (sym w.passed-is ∙ c.if-passed.true) place before)
      | in-Opening w ↦
          transport (λ i. PassesSo bytes at place old before (sym w.self-is i) (sym w.frames-is i)) (opening_passed bytes at old next c.requires.within _ before w.open.new.self place rest
          w.in-Opening.ensures (rw w.if-open.true at w.open.ensures))
      | in-Closing w ↦
          transport (λ i. PassesSo bytes at place old before (sym w.self-is i) (sym w.frames-is i)) (closing_passed bytes at old next c.requires.within _ before w.close.new.self place rest
          w.in-Closing.ensures (rw w.if-close.true at w.close.ensures))
      | in_default-2 w ↦ absurd (both_ways _ w.passed-is c.if-passed.true)
      | in_default-3 w ↦ absurd (both_ways _ w.passed-is c.if-passed.true)
      | in_default w ↦ absurd (both_ways _ w.passed-is c.if-passed.true)
    ]

pub returns-else-passed : goal.returns-else-passed
returns-else-passed c =
    elim c.match-of.branch [
      | in-Quote w ↦ (w.self-is ∙ w.pass_string-passed.ensures.same (sym w.passed-is ∙ c.if-passed.false), w.frames-is)
      | in-Backslash+in-Some-outer_end_len w ↦ absurd (both_ways _ c.if-passed.false w.passed-is)
      | in-Hash w ↦ (w.self-is ∙ w.pass_comment-passed.ensures.same (sym w.passed-is ∙ c.if-passed.false), w.frames-is)
      | in-Opening w ↦ absurd (both_ways _ c.if-passed.false w.passed-is)
      | in-Closing w ↦ absurd (both_ways _ c.if-passed.false w.passed-is)
      | in_default-2 w ↦ (w.self-is, w.frames-is ∙ (rw w.if-open.false at w.open.ensures).1)
      | in_default-3 w ↦ (w.self-is, w.frames-is ∙ (rw w.if-close.false at w.close.ensures).1)
      | in_default w ↦ (w.self-is, w.frames-is)
    ]

pub pass_line_end-requires : goal.pass_line_end-requires
pass_line_end-requires c = record {
  fits = omega (arith, c.requires.within, c.well_formed);
  few = omega (arith, few_ends c.args.bytes.now c.args.self.now c.requires.counted, c.requires.within, c.well_formed);
}

pub returns-in_default-outer_end_len : goal.returns-in_default-outer_end_len
returns-in_default-outer_end_len c = (refl, refl)

pub pass_line_end-requires-in-Return : goal.pass_line_end-requires-in-Return
pass_line_end-requires-in-Return c = record {
  fits = omega (arith, end_within c.args.bytes.now c.args.at c.in-Some.len c.requires.next.within c.in-Some.ensures, c.well_formed);
  few = omega (arith, few_ends c.args.bytes.now c.args.self.now c.requires.counted, c.requires.within, c.well_formed);
}

pub returns-in_default-outer_end_len-2 : goal.returns-in_default-outer_end_len-2
returns-in_default-outer_end_len-2 c = (refl, refl)

pub overflow_add-self : goal.overflow_add-self
overflow_add-self c = omega (arith, few_ends c.args.bytes.now c.args.self.now c.requires.counted, c.requires.within, c.well_formed)

pub char-first : goal.char-first
char-first c = low_scalar (slice_index c.args.bytes.now c.args.at) (omega (arith, c.type_inv.bytes c.args.at))

pub char-first-in-Closing-1 : goal.char-first-in-Closing-1
char-first-in-Closing-1 c = low_scalar (slice_index c.args.bytes.now c.args.at) (omega (arith, c.type_inv.bytes c.args.at))

pub pass-requires-in-Backslash-clause-base : goal.pass-requires-in-Backslash-clause-base
pass-requires-in-Backslash-clause-base c = grind (arith, nat_tests)

pub pass-requires-clause-base : goal.pass-requires-clause-base
pass-requires-clause-base c = grind (arith, nat_tests)

pub pass_string-passed-requires : goal.pass_string-passed-requires
pass_string-passed-requires c = record { next = c.requires.next; within = c.requires.within; quote = c.in-Quote.ensures; counted = c.requires.counted }

pub pass_comment-passed-requires : goal.pass_comment-passed-requires
pass_comment-passed-requires c = record { next = c.requires.next; within = c.requires.within; hash = c.in-Hash.ensures }
