use Rattle.py_lines.proofs.Prelude.{◌+◌, ◌≤◌, ◌∙◌, List, ℕ, Frame, rest_of, Some, ap, arith, drop, get_or-drop, length-drop, refl, slice_index, subst, sym, true, false, length, ◌<◌, ◌≡◌, both_ways, drop-drop, rest_is}
use Rattle.py_lines.specs.Private.FieldText.{HasText}
use Rattle.py_lines.specs.Private.LongStrings.{TakesLong}
use Rattle.py_lines.specs.Private.Marks.{HasMarks}
use Rattle.py_lines.specs.Private.Passing.{MeetsString, TellsFields, word_before}
use Rattle.py_lines.specs.Private.Scan.{passed, quotes_in}
use Rattle.py_lines.proofs.PassedPieces.Counts.{line_counts, plain_counts, quoted_counts}
use Rattle.py_lines.proofs.PassedPieces.FieldStrings.{field_over}
use Rattle.py_lines.proofs.PassedPieces.FirstBytes.{bytes_from, first_later, quotes_fit}
use Rattle.py_lines.proofs.PassedPieces.Items.{empty_over, long_over}
use Rattle.py_lines.proofs.PassedPieces.Passed.{passes_same}
use Rattle.py_lines.proofs.PassedPieces.Reads.{second_quote}
use Rattle.py_lines.proofs.passing.Passing.pass_string.Goals.{In-Some-eq1, In-Some-eq2, In-Some-eq3}
use Rattle.py_lines.proofs.passing.Passing.pass_string.Goals as goal

meets : (c : In-Some-eq1) → MeetsString c.args.bytes.now c.args.at c.args.self.now 1
meets c = record {
  next = c.requires.next;
  within = c.requires.within;
  quote = c.requires.quote;
  many = ap Some (sym c.in-Some-eq1.field-0-test) ∙ sym c.in-Some-eq1.is ∙ c.quotes_len.ensures ∙ ap quotes_in (rest_is c.args.bytes.now c.args.at);
}

pub pass_text-requires : goal.pass_text-requires
pass_text-requires c = record {
  quote = meets (goal.at.pass_text-requires c).In-Some-eq1;
  plain = subst (λ b. TellsFields (word_before c.args.bytes.now c.args.at c.args.self.now) (Some b)) c.in-Some-false.field-0-test
      c.in-Some-false.ensures;
}

-- so many bytes and one more stand there
more_there : (bytes : List ℕ) (from n : ℕ) → n ≤ length (rest_of bytes from) → (n ≡ length (rest_of bytes from) → ⊥) → from + n < length bytes
more_there bytes from n within less = omega (arith, within, less, ap length (rest_is bytes from), length-drop from bytes)

pub returns-else-text-len : goal.returns-else-text-len
returns-else-text-len c =
    let bytes = c.args.bytes.now in
    let at = c.args.at in
    let old = c.args.self.now in
    let next = c.requires.next in
    let here = c.requires.within in
    let n = c.text_len-len.result in
    let q = slice_index bytes at in
    let has = c.text_len-len.ensures in
    let (text, within, last) = subst (λ (xs : List ℕ). HasText q xs n × (n < length xs) × (slice_index xs n ≡ q)) (rest_is bytes (at + 1))
    (has, omega (arith, c.if-len-text.false, has.0), c.if-text-len.false) in
    let room : at + 1 + n < length bytes = omega (arith, within, length-drop (at + 1) bytes) in
    let many = (meets (goal.at.returns-else-text-len c).In-Some-eq1).many in
    let fields = subst (λ b. TellsFields (word_before bytes at old) (Some b)) c.in-Some-true.field-0-test c.in-Some-true.ensures in
    record {
      passed = λ _ place. passes_same bytes at old next here _ c.args.frames.now (1 + (n + 1)) place (omega arith)
          (omega (arith, room)) (omega arith) refl
          (ap (λ m. old.ends + m) (quoted_counts bytes at (at + 1 + n) _ (omega arith) here room c.requires.quote
          (sym (get_or-drop (at + 1) bytes n 0) ∙ last) (line_counts bytes (at + 1) n text.1.low)))
          (c.pass.ensures (at + 1) (next.rest here) (omega arith))
          (λ scan p frames. field_over p q (next.special here) _ n c.requires.quote fields
          (omega (arith, ap (λ (fs : List Frame). length fs) frames, c.len.ensures.is, c.if-len-gt10.false))
          (many ∙ ap quotes_in (bytes_from bytes at here)) text within last);
      same = λ h. absurd (both_ways true h refl);
    }

pub returns-then-len-gt10 : goal.returns-then-len-gt10
returns-then-len-gt10 c = record { passed = λ so. absurd (both_ways false refl so); same = λ _. refl }

pub pass-requires : goal.pass-requires
pass-requires c =
    let room = more_there c.args.bytes.now (c.args.at + 1) c.text_len-len.result c.text_len-len.ensures.0 c.if-len-text.false in
    record { base = omega (arith, (c.requires.next.held c.requires.within).0); within = omega (arith, room) }

pub bounds-text-len : goal.bounds-text-len
bounds-text-len c = grind arith

pub returns-in-Some-false : goal.returns-in-Some-false
returns-in-Some-false c = record { passed = λ so place. c.pass_text.ensures.passed so place c.args.frames.now; same = c.pass_text.ensures.same }

-- three quotes stand there
three : (c : In-Some-eq3) → Some 3 ≡ quotes_in (drop c.args.at c.args.bytes.now)
three c = ap Some (sym c.in-Some-eq3.field-0-test) ∙ sym c.in-Some-eq3.is ∙ c.quotes_len.ensures ∙ ap quotes_in (rest_is c.args.bytes.now c.args.at)

pub long_string_end-requires-clause-within : goal.long_string_end-requires-clause-within
long_string_end-requires-clause-within c =
    let bytes = c.args.bytes.now in
    let at = c.args.at in
    omega (arith, quotes_fit (drop at bytes) 3 (three (goal.at.long_string_end-requires-clause-within c).In-Some-eq3), length-drop at bytes)

pub returns-in-Some-clause-passed : goal.returns-in-Some-clause-passed
returns-in-Some-clause-passed c = λ _ place.
    let bytes = c.args.bytes.now in
    let at = c.args.at in
    let new = c.pass_to.new.self in
    let next = c.requires.next in
    let is = c.in-Some.ensures in
    let n = is.len in
    let many = three (goal.at.returns-in-Some-clause-passed c).In-Some-eq3 in
    let to : new.all ≡ c.in-Some.end = ap (λ p. p.all) c.pass_to.ensures.passed in
    let from = bytes_from bytes at c.requires.within in
    let text = subst (λ xs. TakesLong passed (slice_index bytes at) xs n) (sym (drop-drop 3 at bytes) ∙ ap (drop 3) from) is.text in
    passes_same bytes at c.args.self.now next c.requires.within _ c.args.frames.now (3 + n) place (omega arith)
    (omega (arith, is.text.within, length-drop (at + 3) bytes, quotes_fit (drop at bytes) 3 many, length-drop at bytes)) (omega (arith, to, is.size))
    (ap (λ p. p.lines) c.pass_to.ensures.passed)
    (omega (arith, c.pass_to.ensures.counted, c.requires.counted, plain_counts bytes c.args.self.now.all at next.after next.within next.plain))
    (subst (λ k. HasMarks bytes k new.marks) (sym to) c.pass_to.ensures.marked)
    (λ scan p frames. long_over p _ (next.special c.requires.within) c.requires.quote _ n (many ∙ ap quotes_in from) text is.before)

-- two quotes stand there
told : (c : In-Some-eq2) → Some 2 ≡ quotes_in (drop c.args.at c.args.bytes.now)
told c = ap Some (sym c.in-Some-eq2.field-0-test) ∙ sym c.in-Some-eq2.is ∙ c.quotes_len.ensures ∙ ap quotes_in (rest_is c.args.bytes.now c.args.at)

two_quotes : (c : In-Some-eq2) → (1 < length (drop c.args.at c.args.bytes.now)) × (slice_index (drop c.args.at c.args.bytes.now) 1 ≡ slice_index (drop c.args.at c.args.bytes.now) 0)
two_quotes c = second_quote (drop c.args.at c.args.bytes.now) (told c)

pub returns-in-Some-eq2 : goal.returns-in-Some-eq2
returns-in-Some-eq2 c =
    let bytes = c.args.bytes.now in
    let at = c.args.at in
    let next = c.requires.next in
    let q = slice_index bytes at in
    let all = (goal.at.returns-in-Some-eq2 c).In-Some-eq2 in
    let two = two_quotes all in
    record {
      passed = λ _ place. passes_same bytes at c.args.self.now next c.requires.within _ c.args.frames.now 2 place (omega arith)
          (omega (arith, two.0, length-drop at bytes)) refl refl
          (ap (λ n. c.args.self.now.ends + n) (quoted_counts bytes at (at + 1) (at + 2) (omega arith) c.requires.within
          (omega (arith, two.0, length-drop at bytes)) c.requires.quote (sym (get_or-drop at bytes 1 0) ∙ two.1 ∙ first_later bytes at) refl))
          (c.pass-in-Some-eq2.ensures (at + 1) (next.rest c.requires.within) (omega arith))
          (λ scan p frames. empty_over p q (next.special c.requires.within) c.requires.quote (drop (at + 1) bytes)
          (told all ∙ ap quotes_in (bytes_from bytes at c.requires.within)));
      same = λ h. absurd (both_ways true h refl);
    }

pub pass-requires-in-Some-eq2 : goal.pass-requires-in-Some-eq2
pass-requires-in-Some-eq2 c =
    let two = two_quotes (goal.at.pass-requires-in-Some-eq2 c).In-Some-eq2 in
    record {
      base = omega (arith, (c.requires.next.held c.requires.within).0);
      within = omega (arith, two.0, length-drop c.args.at c.args.bytes.now);
    }

pub returns-in_default : goal.returns-in_default
returns-in_default c = record { passed = λ so. absurd (both_ways false refl so); same = λ _. refl }

pub returns-in_default-2 : goal.returns-in_default-2
returns-in_default-2 c = record { passed = λ so. absurd (both_ways false refl so); same = λ _. refl }

pub returns-in-None : goal.returns-in-None
returns-in-None c = record { passed = λ so. absurd (both_ways false refl so); same = λ _. refl }

pub pass_to-requires-clause-within : goal.pass_to-requires-clause-within
pass_to-requires-clause-within c =
    let bytes = c.args.bytes.now in
    let at = c.args.at in
    let is = c.in-Some.ensures in
    omega (arith, is.text.within, is.size, length-drop (at + 3) bytes, quotes_fit (drop at bytes) 3 (three (goal.at.pass_to-requires-clause-within c).In-Some-eq3), length-drop at bytes)

pub returns-in-None-long_string_end-clause-passed : goal.returns-in-None-long_string_end-clause-passed
returns-in-None-long_string_end-clause-passed c = λ so. absurd (both_ways false refl so)

pub returns-in-Some-clause-same : goal.returns-in-Some-clause-same
returns-in-Some-clause-same c = grind arith
