-- The bits of a word of 64 after the lowest of them are cleared, or the lowest that is set, or LF below the lowest of the others.
use Rattle.py_lines.proofs.Prelude.{◌≡◌, ℕ, zero, suc, ◌+◌, ◌-◌, ◌*◌, ◌/◌, ◌%◌, ◌^◌, ◌<◌, ◌≤◌, min, true, false, eqb, bit_and, bit_xor, inl, inr, sym, ap, ◌∙◌, arith, w64, eqb-true, bit_at, trailing_zeros, count_leading_zeros, pow-suc, cases_order, and_le_l, leading_top, bit_at_above, bit_at_and, bit_at_cat_high, bit_at-lt, bit_at_lowest, bit_at_mask_below, bit_at_mask_inside, bit_at_not, bit_at_ones, bit_at-suc, bit_at-trailing_zeros, bit_at_xor, bit_at-zero, ones_shl}
use Rattle.py_lines.specs.Private.Marks.{is_set}

-- whether a bit is set whose value is known
known : (n i b : ℕ) → bit_at n i ≡ b → is_set n i ≡ eqb b 1
unfolding is_set
known n i b is = ap (λ x. eqb x 1) is

pub unset : (k : ℕ) → is_set 0 k ≡ false
unset k = known 0 k 0 (bit_at-zero k)

-- the bits below this one are cleared
pub cleared_below-is : (bits k i : ℕ) → k < 64 → i < 64 → let left : ℕ = bit_and bits ((2 ^ 64 - 1) * 2 ^ k % 2 ^ 64) in
    (i < k → is_set left i ≡ false) × (k ≤ i → is_set left i ≡ is_set bits i)
unfolding is_set
cleared_below-is bits k i within less =
    let left : ℕ = bit_and bits ((2 ^ 64 - 1) * 2 ^ k % 2 ^ 64) in
    let mask : left ≡ bit_and bits (2 ^ 64 - 2 ^ k) = ap (bit_and bits) (ones_shl 64 k (omega (arith, within))) in
    let both = ap (λ n. bit_at n i) mask ∙ bit_at_and bits (2 ^ 64 - 2 ^ k) i in (
      λ low. known left i 0 (omega (arith, both, bit_at_mask_below k 64 i low)),
      λ high. known left i (bit_at bits i) (omega (arith, both, bit_at_mask_inside k 64 i high less, bit_at-lt bits i)),
    )

-- a number less one has the other bits up to the lowest that is set, and the same above it
less_one : (t bits i : ℕ) → 0 < bits → bit_at bits t ≡ 1 → ((j : ℕ) → j < t → bit_at bits j ≡ 0)
    → (i ≤ t → bit_at bits i + bit_at (bits - 1) i ≡ 1) × (t < i → bit_at (bits - 1) i ≡ bit_at bits i)
less_one zero bits zero some one none = omega (arith, one, bit_at_lowest bits, bit_at_lowest (bits - 1))
less_one zero bits (suc i) some one none =
    let half : (bits - 1) / 2 ≡ bits / 2 = omega (arith, one, bit_at_lowest bits) in
    omega (arith, bit_at-suc bits i, bit_at-suc (bits - 1) i ∙ ap (λ n. bit_at n i) half)
less_one (suc t) bits zero some one none = omega (arith, some, none 0 (omega arith), bit_at_lowest bits, bit_at_lowest (bits - 1))
less_one (suc t) bits (suc i) some one none =
    let even : bits % 2 ≡ 0 = omega (arith, bit_at_lowest bits, none 0 (omega arith)) in
    let half : (bits - 1) / 2 ≡ bits / 2 - 1 = omega (arith, even) in
    let none_in : (j : ℕ) → j < t → bit_at (bits / 2) j ≡ 0 = λ j less. sym (bit_at-suc bits j) ∙ none (suc j) (omega (arith, less)) in
    let rest = less_one t (bits / 2) i (omega (arith, even, some)) (sym (bit_at-suc bits t) ∙ one) none_in in
    let less = bit_at-suc (bits - 1) i ∙ ap (λ n. bit_at n i) half in
    (λ le. omega (arith, bit_at-suc bits i, less, rest.0 (omega (arith, le))), λ high. less ∙ rest.1 (omega (arith, high)) ∙ sym (bit_at-suc bits i))

-- the lowest bit of a word: what stands below it, and the word once it is cleared
pub record HasLowest (bits t : ℕ) : Type 0 where
  pub within : t < 64
  pub set : is_set bits t ≡ true
  pub none : (i : ℕ) → i < t → is_set bits i ≡ false
  pub cleared : (i : ℕ) → i ≤ t → is_set (bit_and bits (bits - 1)) i ≡ false
  pub left : (i : ℕ) → t < i → is_set (bit_and bits (bits - 1)) i ≡ is_set bits i

pub lowest : (bits : ℕ) → 0 < bits → bits < 2 ^ 64 → HasLowest bits (trailing_zeros w64 bits)
unfolding is_set
lowest bits some fits =
    let t = trailing_zeros w64 bits in let left = bit_and bits (bits - 1) in
    let facts = bit_at-trailing_zeros w64 bits some fits in
    let less : (i : ℕ) → _ = λ i. less_one t bits i some facts.1 facts.2 in
    record {
      within = facts.0;
      set = known bits t 1 facts.1;
      none = λ i under. known bits i 0 (facts.2 i under);
      cleared = λ i le. known left i 0 (omega (arith, bit_at_and bits (bits - 1) i, (less i).0 le));
      left = λ i above. known left i (bit_at bits i) (omega (arith, bit_at_and bits (bits - 1) i, (less i).1 above));
    }

-- where a bit is set in a word less one and not in the word, so are those below
below_lowest : (word j i : ℕ) → word < 2 ^ 64 → j < 64 → i ≤ j → bit_at word j ≡ 0 → let less : ℕ = (word + (2 ^ 64 - 1)) % 2 ^ 64 in
    bit_at less j ≡ 1 → (bit_at word i ≡ 0) × (bit_at less i ≡ 1)
below_lowest zero j i fits near le clear set = (bit_at-zero i, bit_at_ones 64 i (omega (arith, le, near)))
below_lowest (suc n) j i fits near le clear set =
    let t = trailing_zeros w64 (suc n) in let facts = bit_at-trailing_zeros w64 (suc n) (omega arith) fits in
    let less_is : (suc n + (2 ^ 64 - 1)) % 2 ^ 64 ≡ suc n - 1 = omega (arith, fits) in
    let less : (k : ℕ) → _ = λ k. less_one t (suc n) k (omega arith) facts.1 facts.2 in
    let under : j < t = elim (cases_order j t) [
      | inl e ↦ absurd (omega (arith, ap (bit_at (suc n)) e, clear, facts.1))
      | inr (inl low) ↦ low
      | inr (inr high) ↦ absurd (omega (arith, set, ap (λ m. bit_at m j) less_is, clear, (less j).1 high))
    ] in
    let none = facts.2 i (omega (arith, le, under)) in
    (none, omega (arith, ap (λ m. bit_at m i) less_is, none, (less i).0 (omega (arith, le, under))))

-- the bits of a word that are feeds, and stand below the lowest that is none
abbrev pub first_feeds : ℕ → ℕ → ℕ
first_feeds bits feeds = bit_and (bit_and bits feeds) ((bit_and bits (2 ^ 64 - 1 - feeds) + (2 ^ 64 - 1)) % 2 ^ 64)

-- the highest of them, and the word without them
pub record HasFeeds (bits feeds : ℕ) : Type 0 where
  pub top : ℕ
  pub at : count_leading_zeros 64 (first_feeds bits feeds) + suc top ≡ 64
  pub set : is_set bits top ≡ true
  pub fits : first_feeds bits feeds < 2 ^ suc top
  pub same : (i : ℕ) → i ≤ top → is_set (first_feeds bits feeds) i ≡ is_set bits i
  pub each : (i : ℕ) → i ≤ top → is_set bits i ≡ true → is_set feeds i ≡ true
  pub cleared : (i : ℕ) → i ≤ top → is_set (bit_xor bits (first_feeds bits feeds)) i ≡ false
  pub left : (i : ℕ) → top < i → is_set (bit_xor bits (first_feeds bits feeds)) i ≡ is_set bits i

pub first_feeds-are : (bits feeds : ℕ) → bits < 2 ^ 64 → feeds < 2 ^ 64 → 0 < first_feeds bits feeds → HasFeeds bits feeds
unfolding is_set
first_feeds-are bits feeds fits feeds_fit some =
    record {
      top = j;
      at = top.1;
      set = known bits j 1 (omega (arith, top_set, (low j (omega arith)).1));
      fits = top.3;
      same = λ i le. known run i (bit_at bits i) (low i le).1;
      each = λ i le set. known feeds i 1 (omega (arith, eqb-true _ _ set, (low i le).0, bit_at-lt feeds i));
      cleared = λ i le. known (bit_xor bits run) i 0 (omega (arith, bit_at_xor bits run i, (low i le).1));
      left = λ i high.
          let none = bit_at_above run (suc j) i top.3 (omega (arith, high)) in
          known (bit_xor bits run) i (bit_at bits i) (omega (arith, bit_at_xor bits run i, none, bit_at-lt bits i));
    }
  where
    others : ℕ
    others = bit_and bits (2 ^ 64 - 1 - feeds)

    less : ℕ
    less = (others + (2 ^ 64 - 1)) % 2 ^ 64

    run : ℕ
    run = first_feeds bits feeds

    top : (j : ℕ) × (count_leading_zeros 64 run + suc j ≡ 64) × (2 ^ j ≤ run) × (run < 2 ^ suc j)
    top = leading_top 64 run some (omega (arith, and_le_l bits feeds, and_le_l (bit_and bits feeds) less, fits))

    j : ℕ
    j = top.0

    top_set : bit_at run j ≡ 1
    top_set =
        let is : run ≡ 1 * 2 ^ j + (run - 2 ^ j) = omega (arith, top.2) in let none : j - j ≡ 0 = omega arith in
        ap (λ n. bit_at n j) is ∙ bit_at_cat_high 1 j (run - 2 ^ j) j (omega (arith, top.2, top.3, pow-suc 2 j)) (omega arith) ∙ ap (bit_at 1) none

    run_at : (i : ℕ) → bit_at run i ≡ min (min (bit_at bits i) (bit_at feeds i)) (bit_at less i)
    run_at i = bit_at_and (bit_and bits feeds) less i ∙ ap (λ b. min b (bit_at less i)) (bit_at_and bits feeds i)

    others_at : (i : ℕ) → i ≤ j → bit_at others i ≡ min (bit_at bits i) (1 - bit_at feeds i)
    others_at i le = bit_at_and bits (2 ^ 64 - 1 - feeds) i ∙ ap (min (bit_at bits i)) (bit_at_not w64 feeds i feeds_fit (omega (arith, le, top.1)))

    low : (i : ℕ) → i ≤ j → (bit_at bits i ≤ bit_at feeds i) × (bit_at run i ≡ bit_at bits i)
    low i le =
        let fit : others < 2 ^ 64 = omega (arith, and_le_l bits (2 ^ 64 - 1 - feeds), fits) in
        let clear : bit_at others j ≡ 0 = omega (arith, top_set, run_at j, others_at j (omega arith)) in
        let below = below_lowest others j i fit (omega (arith, top.1)) le clear (omega (arith, top_set, run_at j, bit_at-lt less j)) in
        omega (arith, below.0, below.1, run_at i, others_at i le, bit_at-lt bits i, bit_at-lt feeds i)
