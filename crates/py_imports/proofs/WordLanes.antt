-- Two neighbouring letters among 64 bytes: a bit for each place where they stand.
use Rattle.std.proofs.Common.{◌≡◌, ℕ, ◌+◌, ◌-◌, ◌%◌, ◌^◌, ◌<◌, ◌≤◌, ◌++◌, ◌⊎◌, Bool, true, false, not, IsTrue, eqb, ltb, cond, List, length, map, replicate, slice_index, bit_or, sym, ap, ◌∙◌, inl, inr, arith, refl, w8}
use Rattle.std.specs.Int.{bit_at}
use Rattle.std.specs.Int.Bits.{bit_xor, xor_self}
use Rattle.std.specs.Str.{byte}
use Rattle.std.specs.List.{range_with_len}
use Rattle.std.specs.Simd.Lanes.{chunk, mask_l, pick_l, sel_l, top, zip2}
use Rattle.std.proofs.lemmas.List.{get_or-map, get_or_append_left}
use Rattle.std.proofs.lemmas.List.FromFn.{get_or-map-range_with_len, length-map-range_with_len}
use Rattle.std.proofs.lemmas.Nat.Bits.{bit_at-zero}
use Rattle.std.proofs.lemmas.Bool.{cases_lt, eq-eqb, ltb-false, ltb-true, ne_eqb}
use Rattle.std.proofs.lemmas.Simd.{bit_mask_l, bitmask_splat, get_or-chunk, get_or-replicate, get_or-sel_l, get_or-zip2, length-chunk, length-replicate, length-sel_l, length-zip2, tops_compared}
use Rattle.py_imports.specs.Private.Gaps.{WordLetters}

-- the lanes are 0 where the first letter and the second stand
abbrev pub letters : ℕ → ℕ → List ℕ → List ℕ → List ℕ
letters x y firsts seconds = zip2 bit_or (zip2 bit_xor firsts (replicate 64 x)) (zip2 bit_xor seconds (replicate 64 y))

abbrev Long : List ℕ → Type 0
Long lanes = length lanes ≡ 64

apart-length : (x : ℕ) (lanes : List ℕ) → Long lanes → Long (zip2 bit_xor lanes (replicate 64 x))
apart-length x lanes long = length-zip2 bit_xor lanes (replicate 64 x) (long ∙ sym (length-replicate 64 x)) ∙ long

letters-length : (x y : ℕ) (firsts seconds : List ℕ) → Long firsts → Long seconds → Long (letters x y firsts seconds)
letters-length x y firsts seconds long also =
    length-zip2 bit_or (zip2 bit_xor firsts (replicate 64 x)) (zip2 bit_xor seconds (replicate 64 y)) (apart-length x firsts long ∙ sym (apart-length y seconds also)) ∙ apart-length x firsts long

-- a lane is 0 where its letter stands
same_lane : (x : ℕ) (lanes : List ℕ) (k : ℕ) → Long lanes → k < 64 → slice_index lanes k ≡ x → slice_index (zip2 bit_xor lanes (replicate 64 x)) k ≡ 0
same_lane x lanes k long less is =
    get_or-zip2 bit_xor lanes (replicate 64 x) k 0 0 0 (omega (arith, long, less)) (omega (arith, length-replicate 64 x, less))
    ∙ ap (λ b. bit_xor (slice_index lanes k) b) (get_or-replicate 64 k x 0 less ∙ sym is)
    ∙ xor_self (slice_index lanes k)

letters_stand : (x y : ℕ) (firsts seconds : List ℕ) (k : ℕ) → Long firsts → Long seconds → k < 64 → slice_index firsts k ≡ x → slice_index seconds k ≡ y → slice_index (letters x y firsts seconds) k ≡ 0
letters_stand x y firsts seconds k long also less is then =
    let first = zip2 bit_xor firsts (replicate 64 x) in
    let second = zip2 bit_xor seconds (replicate 64 y) in
    get_or-zip2 bit_or first second k 0 0 0 (omega (arith, apart-length x firsts long, less)) (omega (arith, apart-length y seconds also, less))
    ∙ (λ i. bit_or (same_lane x firsts k long less is i) (same_lane y seconds k also less then i))

-- the smaller of two lanes
abbrev smaller : List ℕ → List ℕ → List ℕ
smaller xs ys = sel_l (map (top 7) (zip2 (λ a b. cond (ltb a b) 255 0) xs ys)) xs ys

smaller_is : (xs ys : List ℕ) → smaller xs ys ≡ sel_l (zip2 ltb xs ys) xs ys
smaller_is xs ys = ap (λ ms. sel_l ms xs ys) (tops_compared w8 ltb xs ys)

smaller-length : (n : ℕ) (xs ys : List ℕ) → length xs ≡ n → length ys ≡ n → length (smaller xs ys) ≡ n
smaller-length n xs ys long also =
    let as_long = length-zip2 ltb xs ys (long ∙ sym also) in
    ap (λ l. length l) (smaller_is xs ys) ∙ length-sel_l (zip2 ltb xs ys) xs ys as_long (as_long ∙ long ∙ sym also) ∙ as_long ∙ long

-- it is 0 where one of them is
smaller_none : (a b : ℕ) → (a ≡ 0) ⊎ (b ≡ 0) → cond (ltb a b) a b ≡ 0
smaller_none a b either = by (ltb a b) refl either
  where
    by : (less : Bool) → ltb a b ≡ less → (a ≡ 0) ⊎ (b ≡ 0) → cond less a b ≡ 0
    by true e (inl first) = first
    by true e (inr second) = absurd (omega (arith, ltb-true a b e, second))
    by false e (inl first) = omega (arith, ltb-false a b e, first)
    by false e (inr second) = second

smaller_lane : (n : ℕ) (xs ys : List ℕ) (k : ℕ) → length xs ≡ n → length ys ≡ n → k < n → (slice_index xs k ≡ 0) ⊎ (slice_index ys k ≡ 0) → slice_index (smaller xs ys) k ≡ 0
smaller_lane n xs ys k long also less either =
    let as_long = length-zip2 ltb xs ys (long ∙ sym also) in
    ap (λ l. slice_index l k) (smaller_is xs ys)
    ∙ get_or-sel_l (zip2 ltb xs ys) xs ys k 0 (omega (arith, as_long, long, less)) (omega (arith, long, less)) (omega (arith, also, less))
    ∙ ap (λ b. cond b (slice_index xs k) (slice_index ys k)) (get_or-zip2 ltb xs ys k 0 0 false (omega (arith, long, less)) (omega (arith, also, less)))
    ∙ smaller_none (slice_index xs k) (slice_index ys k) either

-- the smaller lanes of the two halves
abbrev halved : ℕ → List ℕ → List ℕ
halved n lanes = smaller (pick_l 0 (lanes ++ lanes) (range_with_len 0 n)) (pick_l 0 (lanes ++ lanes) (range_with_len n n))

-- one of so many lanes is 0
record HasNone (n : ℕ) (lanes : List ℕ) : Type 0 where
  long : length lanes ≡ n
  place : ℕ
  less : place < n
  none : slice_index lanes place ≡ 0

halved_none : (n : ℕ) (lanes : List ℕ) → HasNone (n + n) lanes → HasNone n (halved n lanes)
halved_none n lanes has = by (cases_lt has.place n)
  where
    lane : ℕ → ℕ
    lane k = slice_index (lanes ++ lanes) k

    in_half : (start k : ℕ) → k < n → start + k ≡ has.place → slice_index (map lane (range_with_len start n)) k ≡ 0
    in_half start k less is = get_or-map-range_with_len lane start n k has.place 0 less is ∙ get_or_append_left lanes lanes 0 has.place (omega (arith, has.long, has.less)) ∙ has.none

    found : (k : ℕ) → k < n → (slice_index (map lane (range_with_len 0 n)) k ≡ 0) ⊎ (slice_index (map lane (range_with_len n n)) k ≡ 0) → HasNone n (halved n lanes)
    found k less either =
        let low = map lane (range_with_len 0 n) in
        let high = map lane (range_with_len n n) in
        let long : length low ≡ n = length-map-range_with_len lane 0 n in
        let also : length high ≡ n = length-map-range_with_len lane n n in
        record { long = smaller-length n low high long also; place = k; less = less; none = smaller_lane n low high k long also less either }

    by : (has.place < n) ⊎ (n ≤ has.place) → HasNone n (halved n lanes)
    by (inl low) = found has.place low (inl (in_half 0 has.place low (omega arith)))
    by (inr high) = found (has.place - n) (omega (arith, high, has.less)) (inr (in_half n (has.place - n) (omega (arith, high, has.less)) (omega (arith, high))))

-- the bits of the lanes that are 0
abbrev none_bits : ℕ → List ℕ → ℕ
none_bits n lanes = mask_l (map (top 7) (zip2 (λ a b. cond (eqb a b) 255 0) lanes (replicate n 0))) % 2 ^ 64

none_set : (n : ℕ) (lanes : List ℕ) (k : ℕ) → n ≤ 64 → length lanes ≡ n → k < n → slice_index lanes k ≡ 0 → bit_at (none_bits n lanes) k ≡ 1
none_set n lanes k few long less none =
    ap (λ m. bit_at m k) (bitmask_splat w8 eqb lanes n 0 long few)
    ∙ bit_mask_l (map (λ x. eqb x 0) lanes) k
    ∙ ap (λ b. cond b 1 0) (get_or-map (λ x. eqb x 0) lanes k 0 false (omega (arith, long, less)) ∙ eq-eqb (slice_index lanes k) 0 none)

-- a lane that is 0 is seen in the smallest of each four
pub none_seen : (lanes : List ℕ) → Long lanes → (k : ℕ) → k < 64 → slice_index lanes k ≡ 0 → IsTrue (not (eqb (none_bits 16 (halved 16 (halved 32 lanes))) 0))
none_seen lanes long k less none =
    let least = halved 16 (halved 32 lanes) in
    let has : HasNone 16 least = halved_none 16 (halved 32 lanes) (halved_none 32 lanes (record { long = long; place = k; less = less; none = none })) in
    let set : bit_at (none_bits 16 least) has.place ≡ 1 = none_set 16 least has.place (omega arith) has.long has.less has.none in
    ap not (ne_eqb (none_bits 16 least) 0 (λ no. omega (arith, set, ap (λ b. bit_at b has.place) no, bit_at-zero has.place)))

-- what is made of the lanes of a load and of the next one, for both words
abbrev word_lanes : List ℕ → List ℕ → List ℕ
word_lanes firsts seconds = smaller (letters (byte "i") (byte "m") firsts seconds) (letters (byte "f") (byte "r") firsts seconds)

word_lanes-length : (firsts seconds : List ℕ) → Long firsts → Long seconds → Long (word_lanes firsts seconds)
word_lanes-length firsts seconds long also =
    smaller-length 64 (letters (byte "i") (byte "m") firsts seconds) (letters (byte "f") (byte "r") firsts seconds)
    (letters-length (byte "i") (byte "m") firsts seconds long also) (letters-length (byte "f") (byte "r") firsts seconds long also)

pub word_none : (bytes : List ℕ) → 65 ≤ length bytes → (k : ℕ) → k < 64 → WordLetters bytes k → slice_index (word_lanes (chunk 0 64 bytes) (chunk 1 64 bytes)) k ≡ 0
word_none bytes room k less stand =
    smaller_lane 64 (letters (byte "i") (byte "m") firsts seconds) (letters (byte "f") (byte "r") firsts seconds) k
    (letters-length (byte "i") (byte "m") firsts seconds long also) (letters-length (byte "f") (byte "r") firsts seconds long also) less (either stand)
  where
    firsts : List ℕ
    firsts = chunk 0 64 bytes

    seconds : List ℕ
    seconds = chunk 1 64 bytes

    long : Long firsts
    long = length-chunk 0 64 bytes (omega (arith, room))

    also : Long seconds
    also = length-chunk 1 64 bytes (omega (arith, room))

    stands : (x y : ℕ) → slice_index bytes k ≡ x → slice_index bytes (k + 1) ≡ y → slice_index (letters x y firsts seconds) k ≡ 0
    stands x y is then =
        letters_stand x y firsts seconds k long also less (get_or-chunk 0 64 bytes k 0 less ∙ ap (slice_index bytes) (omega arith) ∙ is)
        (get_or-chunk 1 64 bytes k 0 less ∙ ap (slice_index bytes) (omega arith) ∙ then)

    either : WordLetters bytes k → (slice_index (letters (byte "i") (byte "m") firsts seconds) k ≡ 0) ⊎ (slice_index (letters (byte "f") (byte "r") firsts seconds) k ≡ 0)
    either (inl (i, m)) = inl (stands (byte "i") (byte "m") i m)
    either (inr (f, r)) = inr (stands (byte "f") (byte "r") f r)

pub words_found : (bytes : List ℕ) → 65 ≤ length bytes → (k : ℕ) → k < 64 → WordLetters bytes k → bit_at (none_bits 64 (word_lanes (chunk 0 64 bytes) (chunk 1 64 bytes))) k ≡ 1
words_found bytes room k less stand =
    let long = length-chunk 0 64 bytes (omega (arith, room)) in
    let also = length-chunk 1 64 bytes (omega (arith, room)) in
    none_set 64 (word_lanes (chunk 0 64 bytes) (chunk 1 64 bytes)) k (omega arith) (word_lanes-length (chunk 0 64 bytes) (chunk 1 64 bytes) long also) less (word_none bytes room k less stand)
