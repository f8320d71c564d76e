-- The marks of a text after some of it is passed.
use Rattle.py_lines.proofs.Prelude.{nat_tests, ◌≡◌, ℕ, ◌+◌, ◌-◌, ◌*◌, ◌%◌, ◌^◌, ◌<◌, ◌≤◌, Bool, true, false, ◌&&◌, ◌||◌, not, eqb, Some, List, length, slice_index, zero, suc, cond, max, ◌/◌, bit_and, bit_or, bit_xor, refl, sym, ap, ◌∙◌, inl, inr, arith, w64, ◌++◌, drop, replicate, le_of_eq, length-append, length-drop, get_or-drop, bit_at, trailing_zeros, count_leading_zeros, ones, ones-le, ones_step, pow-suc, count_by, nat_lt, cases_Bool, cases_eq, cases_lt, le-leb, le-ltb, lt-ltb, at_drop_more, drop_all, get_or_append_left, sum_by-replicate, sum_by-append, sum_by-take-drop, bit_at_lowest, bit_at-suc, bit_at_set_other, bit_at_set_same, Marks, is_closing, is_opening, is_line_feed, is_operator, is_return, is_space, line_ends, is_ascii_word, rest_is, rest_of}
use Rattle.memchr.specs.Find.{is_byte}
use Rattle.py_lines.specs.Private.Marks.{Advances, ArePlain, CountsFeeds, EndInFeed, FindsNext, HasMarks, IsSpecial, PassesFeeds, is_feed, is_mark, is_plain, is_set}
use Rattle.py_lines.proofs.PassedPieces.LineFeeds.{plain_on}
use Rattle.py_lines.proofs.Text.Lanes.{filled_past}
use Rattle.py_lines.proofs.SpecialBytes.Bits.{HasFeeds, HasLowest, cleared_below-is, first_feeds, first_feeds-are, lowest, unset}

-- a byte of the text that isn't plain
record IsMark (text : List ℕ) (from k : ℕ) : Type 0 where
  unpassed : from ≤ k
  within : k < length text
  special : is_plain (slice_index text k) ≡ false

mark_is : (text : List ℕ) (from k : ℕ) → is_mark text from k ≡ true → IsMark text from k
mark_is text from k h = grind (arith, nat_tests)

no_mark_before : (text : List ℕ) (from k : ℕ) → k < from → is_mark text from k ≡ false
no_mark_before text from k less = grind (arith, nat_tests)

-- the marks do not depend on where those before them were passed
later_mark : (text : List ℕ) (from to k : ℕ) → from ≤ k → to ≤ k → is_mark text from k ≡ is_mark text to k
later_mark text from to k a b = grind (arith, nat_tests)

pub marked : (text : List ℕ) (from k : ℕ) → from ≤ k → k < length text → is_mark text from k ≡ not (is_plain (slice_index text k))
marked text from k le within = grind (arith, nat_tests)

pub fed : (text : List ℕ) (k : ℕ) → k < length text → is_feed text k ≡ is_line_feed (slice_index text k)
fed text k within = rw (lt-ltb k (length text) within) refl

-- a place in the block of 64
in_block : (base k : ℕ) → base ≤ k → base + (k - base) ≡ k
in_block base k le = omega (arith, le)

-- a byte between, whose bit is not set, is plain
unset_plain : (text : List ℕ) (from : ℕ) (m : Marks) (k : ℕ) → HasMarks text from m → from ≤ k → k < m.base + 64 → k < length text
    → is_set m.bits (k - m.base) ≡ false → is_plain (slice_index text k) ≡ true
unset_plain text from m k has le near within none = grind arith

-- the bytes are passed up to `to`, in the block: the bits before it are cleared
passed_to : (text : List ℕ) (from to bits : ℕ) (m : Marks) → HasMarks text from m → from ≤ to → to ≤ length text → to ≤ m.base + 64
    → ((k : ℕ) → k < 64 → m.base + k < to → is_set bits k ≡ false) → ((k : ℕ) → k < 64 → to ≤ m.base + k → is_set bits k ≡ is_set m.bits k)
    → HasMarks text to (record m { bits = bits })
passed_to text from to bits m has le within reach cleared left = grind arith

pub passes_in_block : (text : List ℕ) (from to : ℕ) (m : Marks) → HasMarks text from m → from ≤ to → to ≤ length text → to - m.base < 64
    → HasMarks text to (record m { bits = bit_and m.bits ((2 ^ 64 - 1) * 2 ^ (to - m.base) % 2 ^ 64) })
passes_in_block text from to m has le within near = grind (arith, cleared_below-is, passed_to)

-- the byte that was passed last is marked again
pub kept : (text : List ℕ) (place : ℕ) (m : Marks) → m.base ≤ place → place < m.base + 64 → IsSpecial text place → HasMarks text (place + 1) m
    → HasMarks text place (record m { bits = bit_or m.bits (1 * 2 ^ (place - m.base) % 2 ^ 64) })
unfolding is_set
kept text place m base reach (within, special) has =
    record {
      base = base;
      within = omega (arith, within);
      reach = omega (arith, reach);
      bits = λ k less. elim (cases_eq k j) [
        | inl same ↦
            let here : m.base + k ≡ place = omega (arith, same, base) in
            ap (λ i. eqb (bit_at (bit_or m.bits (1 * 2 ^ j % 2 ^ 64)) i) 1) same ∙ ap (λ b. eqb b 1) (bit_at_set_same w64 m.bits j near)
            ∙ sym (ap (is_mark text place) here ∙ marked text place place (omega arith) within ∙ ap not special)
        | inr other ↦
            ap (λ b. eqb b 1) (bit_at_set_other w64 m.bits j near k other) ∙ has.bits k less
            ∙ elim (cases_lt (m.base + k) place) [
              | inl low ↦ no_mark_before text (place + 1) (m.base + k) (omega (arith, low)) ∙ sym (no_mark_before text place (m.base + k) low)
              | inr high ↦ later_mark text (place + 1) place (m.base + k) (omega (arith, high, other, base)) high
            ]
      ];
      feeds = has.feeds;
    }
  where
    j : ℕ
    j = place - m.base

    near : j < 64
    near = omega (arith, reach, base)

-- where no bit is set, the block's bytes are plain
pub none_left : (text : List ℕ) (from : ℕ) (m : Marks) → HasMarks text from m → m.bits ≡ 0 → ArePlain text from (m.base + 64)
none_left text from m has none i le near within = unset_plain text from m i has le near within (ap (λ n. is_set n (i - m.base)) none ∙ unset (i - m.base))

-- plain bytes were passed, up to those of the marks
pub record HasPassed (text : List ℕ) (from : ℕ) (m : Marks) : Type 0 where
  pub to : ℕ
  pub after : from ≤ to
  pub marks : HasMarks text to m
  pub plain : ArePlain text from to

-- the next block
pub passes_block : (text : List ℕ) (from : ℕ) (m next : Marks) → HasPassed text from m → Advances text m true next → HasPassed text from next
passes_block text from m next passed on =
    let (plain, has) = on passed.to passed.marks in
    let all = plain_on text from passed.to (m.base + 64) passed.plain plain in
    record { to = m.base + 64; after = omega (arith, passed.after, passed.marks.reach); marks = has; plain = all }

-- no byte that isn't plain is left
pub finds_end : (text : List ℕ) (from : ℕ) (m : Marks) → HasPassed text from m → m.bits ≡ 0 → length text ≤ m.base + 64 → FindsNext text from (length text) m
finds_end text from m passed none last =
    record {
      after = omega (arith, passed.after, passed.marks.within);
      within = omega arith;
      plain = λ k le less.
          plain_on text from passed.to (m.base + 64) passed.plain (none_left text passed.to m passed.marks none) k le (omega (arith, less, last)) less;
      special = λ less. absurd (omega (arith, less));
      rest = λ less. absurd (omega (arith, less));
      held = λ less. absurd (omega (arith, less));
    }

-- the lowest bit that is set is the next byte that isn't plain
pub finds_lowest : (text : List ℕ) (from : ℕ) (m : Marks) → HasPassed text from m → 0 < m.bits → m.bits < 2 ^ 64
    → FindsNext text from (m.base + trailing_zeros w64 m.bits) (record m { bits = bit_and m.bits (m.bits - 1) })
finds_lowest text from m passed some fits =
    record {
      after = omega (arith, passed.after, mark.unpassed);
      within = omega (arith, mark.within);
      plain = λ k le less. plain_on text from passed.to (m.base + t) passed.plain plain k le less (omega (arith, less, mark.within));
      special = λ less. mark.special;
      rest = λ less.
          passed_to text passed.to (m.base + t + 1) _ m passed.marks (omega (arith, mark.unpassed)) (omega (arith, mark.within))
          (omega (arith, first.within)) (λ k _ low. first.cleared k (omega (arith, low))) (λ k _ high. first.left k (omega (arith, high)));
      held = λ less. (omega arith, omega (arith, first.within));
    }
  where
    t : ℕ
    t = trailing_zeros w64 m.bits

    first : HasLowest m.bits t
    first = lowest m.bits some fits

    mark : IsMark text passed.to (m.base + t)
    mark = mark_is text passed.to (m.base + t) (sym (passed.marks.bits t first.within) ∙ first.set)

    plain : ArePlain text passed.to (m.base + t)
    plain k le less within =
        let none = first.none (k - m.base) (omega (arith, less, le, passed.marks.base)) in
        unset_plain text passed.to m k passed.marks le (omega (arith, less, first.within)) within none

feed_is : (text : List ℕ) (k : ℕ) → is_feed text k ≡ true → is_line_feed (slice_index text k) ≡ true
feed_is text k h = grind (arith, nat_tests)

-- LF and CR are not plain, and space is
pub ends_special : (is_plain 10 ≡ false) × (is_plain 13 ≡ false) × (is_plain 32 ≡ true)
unfolding is_plain is_ascii_word is_space is_operator is_opening is_closing
ends_special = (refl, refl, refl)

-- a byte that is plain, or LF, adds to the line ends if it is LF
feed_counted : (text : List ℕ) (i : ℕ) → i < length text → (is_plain (slice_index text i) || is_line_feed (slice_index text i)) ≡ true
    → line_ends (drop i text) ≡ cond (not (is_plain (slice_index text i))) 1 0 + line_ends (drop (i + 1) text)
unfolding is_line_feed is_return
feed_counted text i within is = grind (arith, at_drop_more line_ends text i 0 within, ends_special, is)

-- the marks before a place, which are those of LF, are as many as the line ends
feeds_counted : (text : List ℕ) (from to n at bits start : ℕ) → EndInFeed text from to → at + n ≡ to → bits < 2 ^ n → start ≡ max at from
    → ((k : ℕ) → k < n → is_set bits k ≡ is_mark text from (at + k)) → ones bits + line_ends (drop to text) ≡ line_ends (drop start text)
unfolding is_set
feeds_counted text from to zero at bits start ends upto fits is marks =
    let here : start ≡ to = omega (arith, is, upto, ends.further) in
    rw here (omega (arith, ones-le 0 bits fits))
feeds_counted text from to (suc n) at bits start ends upto fits is marks =
    let rest = λ (next : ℕ) (is : next ≡ max (at + 1) from).
    feeds_counted text from to n (at + 1) (bits / 2) next ends (omega (arith, upto)) (omega (arith, fits, pow-suc 2 n)) is (λ k less.
    ap (λ b. eqb b 1) (sym (bit_at-suc bits k)) ∙ marks (suc k) (omega (arith, less)) ∙ ap (is_mark text from) (omega arith)) in
    let first : is_set bits 0 ≡ is_mark text from at = marks 0 (omega arith) ∙ ap (is_mark text from) (omega arith) in
    elim (cases_lt at from) [
      | inl low ↦ grind (arith, rest start (omega (arith, is, low)), ones_step bits, bit_at_lowest bits, first, no_mark_before text from at low)
      | inr high ↦
          let within : at < length text = omega (arith, upto, ends.within) in
          let here : start ≡ at = omega (arith, is, high) in
          let one = feed_counted text at within (ends.each at high (omega (arith, upto))) in
          rw here (grind (arith, rest (at + 1) (omega (arith, high)), ones_step bits, bit_at_lowest bits, first, marked text from at high within, one))
    ]

-- the LF before any other byte that isn't plain
pub passes_feeds : (text : List ℕ) (from : ℕ) (m : Marks) → HasMarks text from m → m.bits < 2 ^ 64 → m.feeds < 2 ^ 64
    → let passed : ℕ = first_feeds m.bits m.feeds in 0 < passed
    → PassesFeeds text from m (Some (m.base + (64 - count_leading_zeros 64 passed), ones passed)) (record m { bits = bit_xor m.bits passed })
passes_feeds text from m has fits feeds_fit some =
    record {
      base = refl;
      ends = ends;
      marked =
          passed_to text from to _ m has (omega (arith, mark.unpassed, first.at)) (omega (arith, mark.within, first.at)) (omega arith)
          (λ k _ low. first.cleared k (omega (arith, low, first.at))) (λ k _ high. first.left k (omega (arith, high, first.at)));
      counted =
          feeds_counted text from to (suc t) m.base _ from ends (omega (arith, first.at)) first.fits (omega (arith, has.base))
          (λ k less. first.same k (omega (arith, less)) ∙ has.bits k (omega (arith, less, first.at)));
    }
  where
    first : HasFeeds m.bits m.feeds
    first = first_feeds-are m.bits m.feeds fits feeds_fit some

    t : ℕ
    t = first.top

    to : ℕ
    to = m.base + (64 - count_leading_zeros 64 (first_feeds m.bits m.feeds))

    mark : IsMark text from (m.base + t)
    mark = mark_is text from (m.base + t) (sym (has.bits t (omega (arith, first.at))) ∙ first.set)

    feed : (k : ℕ) → k ≤ t → is_set m.bits k ≡ true → is_line_feed (slice_index text (m.base + k)) ≡ true
    feed k le set = feed_is text (m.base + k) (sym (has.feeds k (omega (arith, le, first.at))) ∙ first.each k le set)

    each : (i : ℕ) → from ≤ i → i < to → (is_plain (slice_index text i) || is_line_feed (slice_index text i)) ≡ true
    each i le less =
        let under : i ≤ m.base + t = omega (arith, less, first.at) in
        let here : m.base + (i - m.base) ≡ i = in_block m.base i (omega (arith, le, has.base)) in
        elim (cases_Bool (is_set m.bits (i - m.base))) [
          | inl set ↦ grind (arith, ap (λ j. slice_index text j) here, feed (i - m.base) (omega (arith, under)) set)
          | inr none ↦ grind (arith, unset_plain text from m i has le (omega (arith, under, first.at)) (omega (arith, under, mark.within)) none)
        ]

    ends : EndInFeed text from to
    ends =
        let here : to - 1 ≡ m.base + t = omega (arith, first.at) in
        record {
          further = omega (arith, mark.unpassed, first.at);
          within = omega (arith, mark.within, first.at);
          each = each;
          last = ap (λ i. is_line_feed (slice_index text i)) here ∙ feed t (omega arith) first.set;
        }

-- what a test that fails at a space says of the bytes of a text that has fewer than 64, with spaces after them
tested : (f : ℕ → Bool) (text block : List ℕ) (k : ℕ) → f 32 ≡ false → block ≡ text → length text < 64 → k < 64
    → f (slice_index (block ++ drop (length text) (replicate 64 32)) k) ≡ (nat_lt k (length text) && f (slice_index text k))
tested f text block k space same few less =
    ap (λ l. f (slice_index (l ++ drop (length text) (replicate 64 32)) k)) same
    ∙ elim (cases_lt k (length text)) [
      | inl within ↦ ap f (get_or_append_left text (drop (length text) (replicate 64 32)) 0 k within) ∙ grind (arith, nat_tests)
      | inr past ↦ ap f (filled_past text 64 k 32 past less) ∙ space ∙ grind (arith, nat_tests)
    ]

pub filled : (text block : List ℕ) (k : ℕ) → block ≡ text → length text < 64 → k < 64
    → not (is_plain (slice_index (block ++ drop (length text) (replicate 64 32)) k)) ≡ is_mark text 0 k
filled text block k same few less = tested (λ c. not (is_plain c)) text block k (ap not ends_special.2) same few less ∙ grind (arith, nat_tests)

pub filled_feeds : (text block : List ℕ) (k : ℕ) → block ≡ text → length text < 64 → k < 64
    → is_line_feed (slice_index (block ++ drop (length text) (replicate 64 32)) k) ≡ is_feed text k
unfolding is_line_feed
filled_feeds text block k = tested is_line_feed text block k refl

-- a block with spaces after the text is full
pub filled_length : (text block : List ℕ) → block ≡ text → length text < 64 → length (block ++ drop (length text) (replicate 64 32)) ≡ 64
filled_length text block same few =
    omega (arith, few, ap length same, length-append {A = ℕ} block (drop (length text) (replicate 64 32)), length-drop {A = ℕ} (length text) (replicate 64 32))

-- and has as many LF as the text
pub filled_count : (text block : List ℕ) (mask : ℕ) → block ≡ text → length text < 64 → CountsFeeds (block ++ drop (length text) (replicate 64 32)) mask
    → ones mask ≡ count_by (is_byte 10) text
filled_count text block mask same few counts =
    let p = is_byte 10 in let f : ℕ → ℕ = λ c. cond (p c) 1 0 in let spaces : List ℕ = replicate 64 32 in let after = drop (length text) spaces in
    let none : count_by p (drop 64 (block ++ after)) ≡ 0 = ap (count_by p) (drop_all 64 (block ++ after) (le_of_eq (filled_length text block same few))) in
    let all : count_by p (block ++ after) ≡ count_by p text + count_by p after = ap (λ l. count_by p (l ++ after)) same ∙ sum_by-append f text after in
    omega (arith, counts, none, all, sum_by-take-drop f spaces (length text), sum_by-replicate f 64 32)

-- the marks of a text from a byte on are those of the rest of it
module _ (text : List ℕ) (from : ℕ) (m : Marks) (there : from ≤ length text) (base : m.base ≡ from) where
  abbrev rest : List ℕ
  rest = rest_of text from

  abbrev here : (k : ℕ) → slice_index rest k ≡ slice_index text (m.base + k)
  here k = ap (λ xs. slice_index xs k) (rest_is text from) ∙ get_or-drop from text k 0 ∙ ap (λ b. slice_index text (b + k)) (sym base)

  abbrev size : length rest ≡ length text - from
  size = ap length (rest_is text from) ∙ length-drop from text

  pub has_marks : ((k : ℕ) → k < 64 → is_set m.bits k ≡ is_mark rest 0 k) → ((k : ℕ) → k < 64 → is_set m.feeds k ≡ is_feed rest k) → HasMarks text from m
  has_marks bits feeds = record {
    base = omega (arith, base);
    within = there;
    reach = omega (arith, base);
    bits = λ k less. bits k less ∙ mark k;
    feeds = λ k less. feeds k less ∙ feed k;
  } where
    inside : (k : ℕ) → nat_lt k (length rest) ≡ nat_lt (m.base + k) (length text)
    inside k = elim (cases_lt k (length rest)) [
      | inl low ↦ lt-ltb _ _ low ∙ sym (lt-ltb _ _ (omega (arith, low, size, base)))
      | inr high ↦ le-ltb _ _ high ∙ sym (le-ltb _ _ (omega (arith, high, size, base, there)))
    ]

    mark : (k : ℕ) → is_mark rest 0 k ≡ is_mark text from (m.base + k)
    mark k = rw (inside k, here k, le-leb 0 k (omega arith), le-leb from (m.base + k) (omega (arith, base))) refl

    feed : (k : ℕ) → is_feed rest k ≡ is_feed text (m.base + k)
    feed k = rw (inside k, here k) refl
