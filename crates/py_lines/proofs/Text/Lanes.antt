-- Lanes that pass a test, marked by masks.
use Rattle.py_lines.proofs.Prelude.{◌≡◌, ℕ, zero, suc, ◌%◌, ◌^◌, ◌≤◌, ◌<◌, ◌&&◌, ◌||◌, not, List, [], ◌∷◌, Bool, false, cond, ◌+◌, ◌-◌, ◌*◌, drop, slice_index, length, map, ◌++◌, replicate, refl, ap, ◌∙◌, arith, w8, w64, bit_and, bit_or, to_z, of_z, prefix_len, bit_not, trailing_ones, count_trailing_zeros, one-le-pow, pow-le-pow_right, chunk, zip2, mask_l, top, chunk-drop, length-chunk, map-map, mask_l-lt, mask_l-mod, zip2_of_maps, zip2_splat, length-map, get_or-drop, get_or-append_right, get_or-replicate, prefix_len-append, prefix_len-le-length, prefix_len_passes, prefix_len_stops, nat_tests, min}
use Rattle.py_lines.specs.Private.Run.{IsRunOf, Marks}

-- the same of a mask as a function has it
abbrev pub Shows : (ℕ → Bool) → List ℕ → List ℕ → Type 0
Shows p vs ms = ms ≡ map (λ x. cond (p x) 255 0) vs

signed : (b : Bool) → of_z w8 (to_z w8 (cond b 255 0)) ≡ cond b 255 0
signed b = grind arith

-- a function gives the mask that it has
given : (p : ℕ → Bool) (vs : List ℕ) → map (of_z w8) (map (to_z w8) (map (λ x. cond (p x) 255 0) vs)) ≡ map (λ x. cond (p x) 255 0) vs
given p [] = refl
given p (v ∷ vs) = λ i. signed (p v) i ∷ given p vs i

pub gives : (p : ℕ → Bool) (vs : List ℕ) {ms : List ℕ} → Shows p vs ms → Marks p vs (map (to_z w8) ms)
gives p vs e = ap (λ l. map (of_z w8) (map (to_z w8) l)) e ∙ given p vs

-- a comparison with a byte
pub compared : {n : ℕ} (t : ℕ → ℕ → Bool) (vs : List ℕ) (y : ℕ) → length vs ≡ n → Shows (λ x. t x y) vs (zip2 (λ a b. cond (t a b) 255 0) vs (replicate n y))
compared t vs y long = zip2_splat (λ a b. cond (t a b) 255 0) vs _ y long

-- both of two tests, one of them, and none
module _ (p q : ℕ → Bool) (vs : List ℕ) where
  two : (f : ℕ → ℕ → ℕ) (g : Bool → Bool → Bool) → ((a b : Bool) → f (cond a 255 0) (cond b 255 0) ≡ cond (g a b) 255 0) → {xs ys : List ℕ}
      → Shows p vs xs → Shows q vs ys → Shows (λ x. g (p x) (q x)) vs (zip2 f xs ys)
  two f g marks a b = zip2_of_maps f (λ x. cond (p x) 255 0) (λ x. cond (q x) 255 0) vs a b ∙ (λ i. map (λ x. marks (p x) (q x) i) vs)

  pub both : {xs ys : List ℕ} → Shows p vs xs → Shows q vs ys → Shows (λ x. p x && q x) vs (zip2 bit_and xs ys)
  both = two bit_and (λ a b. a && b) (λ a b. grind arith)

  pub either : {xs ys : List ℕ} → Shows p vs xs → Shows q vs ys → Shows (λ x. p x || q x) vs (zip2 bit_or xs ys)
  either = two bit_or (λ a b. a || b) (λ a b. grind arith)

  -- the same test in other words
  pub same : {ms : List ℕ} → Shows p vs ms → ((x : ℕ) → p x ≡ q x) → Shows q vs ms
  same e alike = e ∙ (λ i. map (λ x. cond (alike x i) 255 0) vs)

not_mark : (b : Bool) → bit_not w8 (cond b 255 0) ≡ cond (not b) 255 0
not_mark b = grind arith

pub none : (p : ℕ → Bool) (vs : List ℕ) {xs : List ℕ} → Shows p vs xs → Shows (λ x. not (p x)) vs (map (bit_not w8) xs)
none p vs e = ap (map (bit_not w8)) e ∙ map-map (bit_not w8) (λ x. cond (p x) 255 0) vs ∙ (λ i. map (λ x. not_mark (p x) i) vs)

top_of : (b : Bool) → top 7 (cond b 255 0) ≡ b
top_of b = grind arith

pub tops : (p : ℕ → Bool) (vs : List ℕ) {ms : List ℕ} → Shows p vs ms → map (top 7) ms ≡ map p vs
tops p vs e = ap (map (top 7)) e ∙ map-map (top 7) (λ x. cond (p x) 255 0) vs ∙ (λ i. map (λ x. top_of (p x) i) vs)

-- bits from the lowest on: one more, and what comes after it
next_bit : (b : Bool) (k m r : ℕ) → m < 2 ^ k → count_trailing_zeros k (2 ^ k - 1 - m) ≡ r
    → count_trailing_zeros (suc k) (2 ^ suc k - 1 - (cond b 1 0 + 2 * m)) ≡ cond b (1 + r) 0
unfolding count_trailing_zeros
next_bit b k m r small rest = grind arith

ones_first : (p : ℕ → Bool) (vs : List ℕ) (k : ℕ) → length vs < k → count_trailing_zeros k (2 ^ k - 1 - mask_l (map p vs)) ≡ prefix_len p vs
ones_first p vs zero less = absurd (omega arith)
ones_first p [] (suc k) less = next_bit false k 0 _ (one-le-pow k 2 (omega arith)) refl
ones_first p (v ∷ vs) (suc k) less =
    let grows : 2 ^ length (map p vs) ≤ 2 ^ k = pow-le-pow_right (omega arith) (omega (arith, length-map vs p, less)) in
    next_bit (p v) k (mask_l (map p vs)) (prefix_len p vs) (omega (arith, mask_l-lt (map p vs), grows)) (ones_first p vs k (omega arith))

-- how many lanes are set before the first that isn't: as many bits
pub set_first : (p : ℕ → Bool) (vs : List ℕ) {ms : List ℕ} {n : ℕ} → length vs ≡ 16 → Shows p vs ms
    → n ≡ trailing_ones w64 (mask_l (map (top 7) ms) % 2 ^ 64) → n ≡ prefix_len p vs
set_first p vs long e counted =
    counted ∙ ap (λ l. trailing_ones w64 (mask_l l % 2 ^ 64)) (tops p vs e)
    ∙ ap (trailing_ones w64) (mask_l-mod (map p vs) 64 (omega (arith, length-map vs p, long))) ∙ ones_first p vs 64 (omega (arith, long))

-- a run ends in sixteen bytes, or goes on after them
pub ends_within : (p : ℕ → Bool) (xs : List ℕ) (i : ℕ) → i + 16 ≤ length xs → prefix_len p (chunk i 16 xs) < 16
    → prefix_len p (drop i xs) ≡ prefix_len p (chunk i 16 xs)
ends_within p xs i room short =
    grind (arith, nat_tests, ap (prefix_len p) (chunk-drop i 16 xs) ∙ prefix_len-append p (chunk i 16 xs) (drop (i + 16) xs), length-chunk i 16 xs room)

pub sixteen_on : (p : ℕ → Bool) (xs : List ℕ) (i : ℕ) → i + 16 ≤ length xs → 16 ≤ prefix_len p (chunk i 16 xs)
    → prefix_len p (drop i xs) ≡ 16 + prefix_len p (drop (i + 16) xs)
sixteen_on p xs i room all =
    let split = ap (prefix_len p) (chunk-drop i 16 xs) ∙ prefix_len-append p (chunk i 16 xs) (drop (i + 16) xs) in
    grind (arith, nat_tests, split, length-chunk i 16 xs room, prefix_len-le-length p (chunk i 16 xs))

-- the run of a list that goes on is as long, up to its end
pub shorter_run : (p : ℕ → Bool) (xs zs ys : List ℕ) (r n : ℕ) → zs ≡ xs → r ≡ prefix_len p (zs ++ ys) → n ≡ min r (length xs) → n ≡ prefix_len p xs
shorter_run p xs zs ys r n same counted least =
    grind (arith, nat_tests, least, counted ∙ ap (λ l. prefix_len p (l ++ ys)) same ∙ prefix_len-append p xs ys, prefix_len-le-length p xs)

pub run_is : (p : ℕ → Bool) (xs : List ℕ) (n : ℕ) → n ≡ prefix_len p xs → IsRunOf p xs n
run_is p xs n is =
    rw is record { within = prefix_len-le-length p xs; each = λ i less. prefix_len_passes p xs i 0 less; ends = λ less. prefix_len_stops p xs 0 less }

-- past the bytes stands what fills the block
pub filled_past : (bytes : List ℕ) (n k pad : ℕ) → length bytes ≤ k → k < n → slice_index (bytes ++ drop (length bytes) (replicate n pad)) k ≡ pad
filled_past bytes n k pad past less = grind (arith, get_or-append_right, get_or-drop, get_or-replicate)
