use Rattle.py_lines.proofs.Prelude.{◌≡◌, ◌+◌, ◌-◌, ◌≤◌, ◌∙◌, List, [], ℕ, add-zero, ap, arith, drop, length-drop, refl, slice_index, subst, sym, take, transport, eqb-false, IfOk-from_err, IfSome, Token, Passing, Scan, has_field, is_of_class}
use Rattle.py_lines.specs.Private.LineTokens.{HaveReadAnyway, HoldsTokens, IsLineAfter, ReadsAnyway, ReadsUpTo}
use Rattle.py_lines.specs.Private.Passing.{PassesSo, with_frames}
use Rattle.py_lines.proofs.LineTokens.Anyway.{begun_anyway, line_read, reads_on}
use Rattle.py_lines.proofs.LineTokens.Strings.{short_taken}
use Rattle.py_lines.proofs.PassedPieces.Ends.{passes_none}
use Rattle.py_lines.proofs.PassedPieces.Pieces.{HasPassed, passes_line, passes_next}
use Rattle.py_lines.proofs.simple_line.read_simple_line.Goals as goal
use Rattle.py_lines.proofs.simple_line.read_simple_line.Goals.{In-Some, In-specials, Joined-of, in-Quote+else-not-pass_short_string+in_ok-add_token, in_default+in-Passed}

pub specials-init : goal.specials-init
specials-init c =
    let mode = ap (λ (s : Scan). s.mode) c.requires.scan in
    rw c.new-passing.ensures.nothing (
      record {
        same = refl;
        outside = ap (λ (s : Scan). has_field s.frames) c.requires.scan;
        takes = passes_none c.args.scan.now c.args.bytes.now mode;
        next = c.next-at.ensures 0 c.new-passing.ensures.marked;
      },
      omega arith,
      omega arith,
      subst (HaveReadAnyway _ _ _ _) (sym c.clear.ensures.items) (begun_anyway c.args.bytes.now c.args.line (search (arith))),
    )

pub read_up_to-requires-clause-lines : goal.read_up_to-requires-clause-lines
read_up_to-requires-clause-lines c = omega (arith, c.specials.invariant.2, c.requires.lines, c.specials.auto.line_here-fits)

-- no byte of the line was passed before these
stop : (c : In-specials) → c.specials.scan.stop ≡ 0
stop c = ap (λ (s : Scan). s.stop) (c.specials.invariant.0.same ∙ ap (λ s. with_frames s c.specials.scan.frames) c.requires.scan)

-- the pieces before this byte were read
read : (c : In-Some) → ReadsUpTo c.args.bytes.now c.specials.tokens.items c.specials.start c.specials.line_here c.specials.at c.in-Some.line c.read_up_to.new.tokens.items
read c = subst (λ o. IfSome o (λ after. ReadsUpTo c.args.bytes.now c.specials.tokens.items c.specials.start c.specials.line_here c.specials.at after c.read_up_to.new.tokens.items))
    c.in-Some.is c.in_ok-line.ensures

pub returns-in-LineEnd : goal.returns-in-LineEnd
returns-in-LineEnd c =
    let (on, counted, few, have) = c.specials.invariant in
    let ends = c.in-LineEnd.ensures in
    let last : c.pass-in-LineEnd.new.self.stop ≡ c.specials.at + c.in-LineEnd.len
    = omega (arith, ap (λ (s : Scan). s.stop) c.pass-in-LineEnd.ensures, stop (goal.at.returns-in-LineEnd c).In-specials, ends.all) in
    let (tokens, lines) = line_read ((read (goal.at.returns-in-LineEnd c).In-Some).reads c.args.line have) c.in-LineEnd.len ends.some (omega (arith, ends.all, ends.within)) in
    record {
      before = c.specials.at;
      ends = passes_line _ _ _ _ _ on c.in-LineEnd.len c.pass-in-LineEnd.new.self c.pass.new.self c.pass.new.frames ends c.pass-in-LineEnd.ensures;
      tokens = subst (λ (n : ℕ). HoldsTokens (take n c.args.bytes.now) c.in-LineEnd.len c.args.line c.read_up_to.new.tokens.items) (sym last) tokens;
      lines = subst (λ (n : ℕ). IsLineAfter c.args.line (take n c.args.bytes.now) c.in-LineEnd.len (c.in-Some.line + 1)) (sym last) lines;
    }

-- what stands at the byte was passed, and the pieces are read up to a place, from where the line is this one
record GoesOn (bytes : List ℕ) (at first line : ℕ) (old : Scan) (p : Passing) (scan : Scan) (tokens : List Token) (start : ℕ) (q : Passing) : Type 0 where
  same : scan ≡ with_frames old scan.frames
  so : PassesSo bytes at (old.stop + at) p old.frames q scan.frames
  few : line ≤ first + start
  have : HaveReadAnyway bytes first start line tokens

goes_on : (c : Joined-of) → GoesOn c.args.bytes.now c.specials.at c.args.line c.in-Some.line c.specials.scan c.specials.passing c.match-of.scan
    c.match-of.tokens.items c.match-of.start c.match-of.passing
goes_on c =
    let (on, counted, before, have) = c.specials.invariant in
    let bytes = c.args.bytes.now in
    let at = c.specials.at in
    let r = read (goal.at.Joined-of c).In-Some in
    let there = r.reads c.args.line have in
    let few : c.in-Some.line ≤ c.args.line + at = omega (arith, r.few, before) in
    elim c.match-of.branch [
      | in-Quote+else-not-pass_short_string+in_ok-add_token w ↦
          let all = w.pass_short_string.new.passing.all in
          let so = w.pass_short_string.ensures.passed w.if-not-pass_short_string.false (c.specials.scan.stop + at) c.specials.scan.frames in
          let string = w.pass_short_string.ensures.string w.if-not-pass_short_string.false in
          let piece : ReadsAnyway (drop at bytes) c.read_up_to.new.tokens.items at c.in-Some.line (all - at) 0 w.add_token.new.tokens.items = record {
            some = omega (arith, string.size);
            within = omega (arith, so.within, length-drop at bytes);
            few = omega arith;
            role = _;
            is = λ n fits within. short_taken bytes at all string n fits;
            adds = w.in_ok-add_token.ensures;
          } in
          let far : at + (all - at) ≡ all = omega (arith, so.further) in
          transport (λ i. GoesOn bytes at c.args.line c.in-Some.line c.specials.scan c.specials.passing (sym w.scan-is i) (sym w.tokens-is i).items (sym w.start-is i) (sym w.passing-is i)) (record {
            same = refl;
            so = so;
            few = omega (arith, few, so.further);
            have = transport (λ i. HaveReadAnyway bytes c.args.line (far i) (add-zero c.in-Some.line i) w.add_token.new.tokens.items) (reads_on there piece);
          })
      | in_default+in-Passed w ↦
          let place : at ≡ c.specials.scan.stop + at = omega (arith, stop (goal.at.Joined-of c).In-specials) in
          transport (λ i. GoesOn bytes at c.args.line c.in-Some.line c.specials.scan c.specials.passing (sym w.scan-is i) (sym w.tokens-is i).items (sym w.start-is i) (sym w.passing-is i)) (record {
            same = refl;
            so = subst (λ (n : ℕ). PassesSo bytes at n c.specials.passing c.specials.scan.frames w.pass.new.self w.pass.new.frames) place w.in-Passed.ensures;
            few = few;
            have = there;
          })
    ]

pub next-at-requires-in-specials : goal.next-at-requires-in-specials
next-at-requires-in-specials c = let marked = (goes_on (goal.at.next-at-requires-in-specials c).Joined-of).so.marked in omega (arith, marked.base, marked.within)

pub specials-smaller : goal.specials-smaller
specials-smaller c =
    let so = (goes_on (goal.at.specials-smaller c).Joined-of).so in
    let next = c.next-at-in-specials.ensures c.match-of.passing.all so.marked in
    omega (arith, so.further, next.after, next.within, c.specials-test.true)

pub specials-preserved : goal.specials-preserved
specials-preserved c =
    let g = goes_on (goal.at.specials-preserved c).Joined-of in
    let (on, counted, before, have) = c.specials.invariant in
    let next = passes_next _ _ _ _ _ on c.match-of.scan.frames c.match-of.passing c.next-at-in-specials.result c.next-at-in-specials.new.self g.so
    (c.next-at-in-specials.ensures c.match-of.passing.all g.so.marked) in (
      subst (λ s. HasPassed c.args.scan.now c.args.bytes.now c.next-at-in-specials.result s (record c.match-of.passing { marks = c.next-at-in-specials.new.self })) (sym g.same) next,
      g.so.counted ∙ counted,
      g.few,
      g.have,
    )

pub pass_short_string-requires-clause-quote : goal.pass_short_string-requires-clause-quote
pass_short_string-requires-clause-quote c = ap (λ k. is_of_class k (slice_index c.args.bytes.now c.specials.at)) (sym c.in-Quote.is) ∙ c.of.ensures

pub overflow_sub-passing : goal.overflow_sub-passing
overflow_sub-passing c = omega (arith, (c.pass_short_string.ensures.passed c.if-not-pass_short_string.false 0 []).further)

pub add_token-requires : goal.add_token-requires
add_token-requires c = let so = c.pass_short_string.ensures.passed c.if-not-pass_short_string.false 0 [] in omega (arith, so.further, so.within, c.requires.lines)

pub pass-requires : goal.pass-requires
pass-requires c = record { next = c.specials.invariant.0.next; within = c.specials-test.true; counted = c.specials.invariant.1 }

pub bounds-bytes-0 : goal.bounds-bytes-0
bounds-bytes-0 c = let some = eqb-false _ 0 (sym c.is_empty.ensures ∙ c.if-is_empty.false) in omega (arith, some)

pub returns-in_err-line : goal.returns-in_err-line
returns-in_err-line c = IfOk-from_err c.from_residual.result _ c.from_residual.ensures.0

pub returns-in_err-add_token : goal.returns-in_err-add_token
returns-in_err-add_token c = IfOk-from_err c.from_residual-in_err-add_token.result _ c.from_residual-in_err-add_token.ensures.0

pub pass-requires-in-LineEnd : goal.pass-requires-in-LineEnd
pass-requires-in-LineEnd c = omega (arith, stop (goal.at.pass-requires-in-LineEnd c).In-specials, c.in-LineEnd.ensures.within, c.requires.lines)

pub overflow_add-result : goal.overflow_add-result
overflow_add-result c = omega (arith, (read (goal.at.overflow_add-result c).In-Some).few, c.specials.invariant.2, c.specials-test.true, c.requires.lines)

pub pass_short_string-requires-clause-next : goal.pass_short_string-requires-clause-next
pass_short_string-requires-clause-next c = grind arith

pub pass_short_string-requires-clause-within : goal.pass_short_string-requires-clause-within
pass_short_string-requires-clause-within c = grind arith

pub read_up_to-requires-clause-within : goal.read_up_to-requires-clause-within
read_up_to-requires-clause-within c = grind arith

pub next-at-requires : goal.next-at-requires
next-at-requires c = grind arith
