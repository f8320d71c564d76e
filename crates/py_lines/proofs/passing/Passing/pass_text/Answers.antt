use Rattle.py_lines.proofs.Prelude.{subst, ◌+◌, ◌<◌, ◌≡◌, ◌∙◌, List, ℕ, ap, arith, get_or-drop, length, length-drop, refl, slice_index, sym, true, false, ◌≤◌, both_ways, le_refl, rest_is, rest_of}
use Rattle.py_lines.specs.Private.Run.{is_line_byte}
use Rattle.py_lines.proofs.PassedPieces.FirstBytes.{first_later}
use Rattle.py_lines.proofs.PassedPieces.Reads.{TextItem, escape_item, reads_on, string_at, string_passed, text_begun, text_item}
use Rattle.py_lines.proofs.passing.Passing.pass_text.Goals.{Joined-this-lt2, in-92, in-len1-up-2}
use Rattle.py_lines.proofs.passing.Passing.pass_text.Goals as goal

pub specials-init : goal.specials-init
specials-init c =
    let meets = c.requires.quote in
    text_begun (slice_index c.args.bytes.now c.args.at) meets.quote (meets.next.special meets.within)
    (c.next-end.ensures _ (meets.next.rest meets.within))

-- the byte at this place, as a slice has it
here : (bytes : List ℕ) (end : ℕ) → slice_index (rest_of bytes end) 0 ≡ slice_index bytes end
here bytes end = ap (λ xs. slice_index xs 0) (rest_is bytes end) ∙ first_later bytes end

-- bytes stand there, as a slice has them
there : (bytes : List ℕ) (end k : ℕ) → 1 ≤ k → k ≤ length (rest_of bytes end) → end + k ≤ length bytes
there bytes end k some room = omega (arith, some, room, ap length (rest_is bytes end), length-drop end bytes)

-- the byte that isn't plain, or the escape, that was read
item : (c : Joined-this-lt2) → TextItem (slice_index c.args.bytes.now c.args.at) c.args.bytes.now c.specials.end c.if-this-lt2.marks
item c =
    let bytes = c.args.bytes.now in
    let end = c.specials.end in
    let q = slice_index bytes c.args.at in
    let rest = ap length (rest_is bytes end) ∙ length-drop end bytes in
    let within : end < length bytes = omega (arith, c.in-len1-up.len_at_least, rest) in
    let marked = c.specials.invariant.next.rest within in
    let first = here bytes end in
    elim c.if-this-lt2.branch [
      | in-92 w ↦
          let next = ap (λ xs. slice_index xs 1) (rest_is bytes end) ∙ get_or-drop end bytes 1 0 in
          subst (TextItem q bytes end) (sym w.marks-is) (escape_item q c.requires.quote.quote (w.pass.ensures (end + 1) marked (omega arith)) (sym first ∙ grind arith)
          (omega (arith, w.in-92.len_at_least, rest)) (ap is_line_byte (sym next) ∙ sym w.is_line_byte.ensures ∙ w.if-is_line_byte.true))
      | in-len1-up-2 w ↦
          subst (TextItem q bytes end) (sym w.marks-is) (text_item q c.requires.quote.quote within marked (λ same. c.if-b-quote.false (first ∙ same))
          (λ same. w.if-b-ne92.true (first ∙ same))
          (ap is_line_byte (sym first) ∙ sym w.is_line_byte-then-b-ne92.ensures ∙ w.if-is_line_byte-2.true))
    ]

pub next-end-requires-in-specials : goal.next-end-requires-in-specials
next-end-requires-in-specials c =
    let marked = (item (goal.at.next-end-requires-in-specials c).Joined-this-lt2).marked in
    omega (arith, marked.base, marked.within)

pub specials-smaller : goal.specials-smaller
specials-smaller c =
    let it = item (goal.at.specials-smaller c).Joined-this-lt2 in
    let next = c.next-end-in-specials.ensures _ it.marked in
    omega (arith, next.after, next.within, it.some)

pub specials-preserved : goal.specials-preserved
specials-preserved c =
    let it = item (goal.at.specials-preserved c).Joined-this-lt2 in
    reads_on c.specials.invariant it (c.next-end-in-specials.ensures _ it.marked)

pub returns : goal.returns
returns c =
    let bytes = c.args.bytes.now in
    let end = c.specials.end in
    let meets = c.requires.quote in
    let within : end < length bytes = omega (arith, c.in-len1-up.len_at_least, ap length (rest_is bytes end), length-drop end bytes) in
    let closes = sym (here bytes end) ∙ c.if-b-quote.true in
    record {
      passed = λ _ place b. string_passed bytes c.args.at end c.specials.invariant within meets.quote closes meets.many c.args.self.now b place
          meets.next c.requires.plain;
      string = λ _. string_at bytes c.args.at end c.specials.invariant within meets.quote closes meets.many;
      same = λ h. absurd (both_ways true h refl);
    }

pub returns-in_default : goal.returns-in_default
returns-in_default c = record { passed = λ so. absurd (both_ways false refl so); string = λ so. absurd (both_ways false refl so); same = λ _. refl }

pub returns-in_default-2 : goal.returns-in_default-2
returns-in_default-2 c = record { passed = λ so. absurd (both_ways false refl so); string = λ so. absurd (both_ways false refl so); same = λ _. refl }

pub returns-in_default-3 : goal.returns-in_default-3
returns-in_default-3 c = record { passed = λ so. absurd (both_ways false refl so); string = λ so. absurd (both_ways false refl so); same = λ _. refl }

pub returns-in_default-4 : goal.returns-in_default-4
returns-in_default-4 c = record { passed = λ so. absurd (both_ways false refl so); string = λ so. absurd (both_ways false refl so); same = λ _. refl }

pub bounds-bytes-at : goal.bounds-bytes-at
bounds-bytes-at c = c.requires.quote.within

pub next-end-requires : goal.next-end-requires
next-end-requires c = omega (arith, (c.requires.quote.next.held c.requires.quote.within).0, c.requires.quote.within)

pub slice_bounds-t-16-count : goal.slice_bounds-t-16-count
slice_bounds-t-16-count c = c.specials.invariant.next.within

pub slice_bounds-t-17-start : goal.slice_bounds-t-17-start
slice_bounds-t-17-start c = c.specials.invariant.next.within

pub slice_bounds-t-17-end : goal.slice_bounds-t-17-end
slice_bounds-t-17-end c = le_refl (length c.args.bytes.now)

pub bounds-b-0 : goal.bounds-b-0
bounds-b-0 c = omega (arith, c.in-len1-up.len_at_least)

pub bounds-0 : goal.bounds-0
bounds-0 c = omega (arith, c.in-len1-up.len_at_least)

pub bounds-b-1 : goal.bounds-b-1
bounds-b-1 c = omega (arith, c.in-92.len_at_least)

pub overflow_add-end : goal.overflow_add-end
overflow_add-end c = omega (arith, there c.args.bytes.now c.specials.end 2 (omega arith) c.in-92.len_at_least, c.well_formed)

pub pass-requires : goal.pass-requires
pass-requires c =
    let room = there c.args.bytes.now c.specials.end 2 (omega arith) c.in-92.len_at_least in
    let held = c.specials.invariant.next.held (omega (arith, room)) in
    record { base = omega (arith, held.0); within = room }

pub bounds-b-0-in-specials : goal.bounds-b-0-in-specials
bounds-b-0-in-specials c = omega (arith, c.in-len1-up.len_at_least)

pub overflow_add-self : goal.overflow_add-self
overflow_add-self c = omega (arith, there c.args.bytes.now c.specials.end 1 (omega arith) c.in-len1-up.len_at_least, c.well_formed)
