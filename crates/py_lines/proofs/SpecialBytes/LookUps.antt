-- Bytes in whole sixteens of lanes, looked up in two tables by halves of them, and what the two look-ups say together.
use Rattle.py_lines.proofs.Prelude.{◌≡◌, ℕ, ◌+◌, ◌*◌, ◌/◌, ◌%◌, ◌^◌, ◌<◌, ◌≤◌, Bool, true, false, cond, eqb, List, [], ◌∷◌, drop, length, map, slice_index, slice_index_or, bit_and, replicate, refl, sym, ap, ◌∙◌, arith, w8, Fits, eqb-true, ones, count_by, Each1, chunk, mask_l, top, zip2, agree_below, agree_below_at, ext_get_or, get_or-map, length-map, sum_by-take-drop, and_le_r, Each1-from_get_or, Each1-get_or, SwzOk, SwzOk-from_below, bit_mask_l, chunk-fits, mask_l-mod, ones-mask_l, get_or-chunk, get_or-swz_l_below, length-chunk, length-swz_l, splat_is_map, swz_l, zip2_of_maps, zip2_splat}
use Rattle.py_lines.specs.Private.Marks.{is_set}
use Rattle.py_lines.proofs.Text.Lanes.{Shows, tops}

-- lanes that hold bytes, so many sixteens of them
abbrev pub AreBytes : ℕ → List ℕ → Type 0
AreBytes sixteens lanes = (length lanes ≡ 16 * sixteens) × Each1 (Fits w8) lanes

-- whether a table is one of 16, once or more
abbrev pub is_copied : List ℕ → ℕ → Bool
is_copied table k = eqb (slice_index table k) (slice_index table (k % 16))

abbrev pub IsCopied : ℕ → List ℕ → Type 0
IsCopied sixteens table = agree_below (is_copied table) (λ _. true) (16 * sixteens) ≡ true

-- bytes are looked up at places below 16
module _ (sixteens : ℕ) (lanes : List ℕ) (bytes : AreBytes sixteens lanes) (place_of : ℕ → ℕ) (small : (b : ℕ) → b < 256 → place_of b < 16) where
  place_is : {places : List ℕ} → places ≡ map place_of lanes → (i : ℕ) → i < length lanes → (slice_index places i ≡ place_of (slice_index lanes i)) × slice_index places i < 16
  place_is e i less =
      let is = ap (λ l. slice_index l i) e ∙ get_or-map place_of lanes i 0 0 less in
      (is, omega (arith, is, small (slice_index lanes i) (Each1-get_or (Fits w8) lanes i 0 less bytes.1).fits))

  long : {places : List ℕ} → places ≡ map place_of lanes → length places ≡ length lanes
  long e = ap (λ l. length l) e ∙ length-map lanes place_of

  places_fit : {places : List ℕ} → places ≡ map place_of lanes → SwzOk w8 16 (16 * sixteens) 0 places
  places_fit {places} e =
      SwzOk-from_below w8 16 sixteens (16 * sixteens) 0 places (omega arith) (omega (arith, long e, bytes.0))
      (Each1-from_get_or (λ j. j < 16) places 0 (λ i less. (place_is e i (omega (arith, less, long e))).1))

  -- what is looked up stands at the place in the table
  looked_up : (table : List ℕ) {places : List ℕ} → places ≡ map place_of lanes → IsCopied sixteens table
      → swz_l w8 16 table 0 places ≡ map (λ b. slice_index table (place_of b)) lanes
  looked_up table {places} e copies =
      ext_get_or 0 _ _ (length-swz_l w8 16 table 0 places ∙ long e ∙ sym (length-map lanes (λ b. slice_index table (place_of b))))
      (λ i less. at i (omega (arith, less, length-swz_l w8 16 table 0 places, long e)))
    where
      at : (i : ℕ) → i < length lanes → slice_index (swz_l w8 16 table 0 places) i ≡ slice_index (map (λ b. slice_index table (place_of b)) lanes) i
      at i less =
          let place = place_is e i less in let k = 16 * ((0 + i) / 16) + slice_index places i in
          let within : k < 16 * sixteens = omega (arith, place.1, less, bytes.0) in
          let half : k % 16 ≡ slice_index places i = omega (arith, place.1) in
          get_or-swz_l_below w8 16 table 0 places i (omega (arith, less, long e)) place.1
          ∙ eqb-true _ _ (agree_below_at (is_copied table) (λ _. true) (16 * sixteens) k copies within) ∙ ap (λ j. slice_index table j) (half ∙ place.0)
          ∙ sym (get_or-map (λ b. slice_index table (place_of b)) lanes i 0 0 less)

-- what two tables have for the lower half of a byte and for its upper one, together
abbrev pub met : List ℕ → List ℕ → ℕ → ℕ
met lows highs b = bit_and (slice_index lows (bit_and b 15)) (slice_index highs (b / 16))

-- tests of one answer for each byte make one mask
same_on_bytes : (f g : ℕ → Bool) → agree_below f g 256 ≡ true → (lanes : List ℕ) → Each1 (Fits w8) lanes
    → map {B = ℕ} (λ b. cond (f b) 255 0) lanes ≡ map (λ b. cond (g b) 255 0) lanes
same_on_bytes f g agree [] fits = refl
same_on_bytes f g agree (b ∷ bs) fits = λ i. cond (agree_below_at f g 256 b agree fits.0.fits i) 255 0 ∷ same_on_bytes f g agree bs fits.1 i

module _ (sixteens : ℕ) (lanes : List ℕ) (bytes : AreBytes sixteens lanes) where
  low_small : (b : ℕ) → b < 256 → bit_and b 15 < 16
  low_small b less = omega (arith, and_le_r b 15)

  high_small : (b : ℕ) → b < 256 → b / 16 < 16
  high_small b less = omega (arith, less)

  lows_are : zip2 bit_and lanes (replicate (16 * sixteens) 15) ≡ map (λ b. bit_and b 15) lanes
  lows_are = zip2_splat bit_and lanes (16 * sixteens) 15 bytes.0

  highs_are : zip2 (λ a b. a / 2 ^ b) lanes (replicate (16 * sixteens) 4) ≡ map (λ b. b / 16) lanes
  highs_are = zip2_splat (λ a b. a / 2 ^ b) lanes (16 * sixteens) 4 bytes.0

  -- the halves may be looked up
  pub lows_fit : SwzOk w8 16 (16 * sixteens) 0 (zip2 bit_and lanes (replicate (16 * sixteens) 15))
  lows_fit = places_fit sixteens lanes bytes (λ b. bit_and b 15) low_small lows_are

  pub highs_fit : SwzOk w8 16 (16 * sixteens) 0 (zip2 (λ a b. a / 2 ^ b) lanes (replicate (16 * sixteens) 4))
  highs_fit = places_fit sixteens lanes bytes (λ b. b / 16) high_small highs_are

  -- a comparison of what is looked up marks the lanes that pass a test, where it answers so for each byte
  pub looked_up_shows : (lows highs : List ℕ) (t : ℕ → ℕ → Bool) (p : ℕ → Bool) → IsCopied sixteens lows → IsCopied sixteens highs
      → agree_below (λ b. t (met lows highs b) 0) p 256 ≡ true
      → Shows p lanes (zip2 (λ a b. cond (t a b) 255 0) (zip2 bit_and (swz_l w8 16 lows 0 (zip2 bit_and lanes (replicate (16 * sixteens) 15))) (swz_l w8 16 highs 0 (zip2 (λ a b. a / 2 ^ b) lanes (replicate (16 * sixteens) 4)))) (replicate (16 * sixteens) 0))
  looked_up_shows lows highs t p low_copies high_copies agree =
      let both = zip2_of_maps bit_and (λ b. slice_index lows (bit_and b 15)) (λ b. slice_index highs (b / 16)) lanes
      (looked_up sixteens lanes bytes (λ b. bit_and b 15) low_small lows lows_are low_copies)
      (looked_up sixteens lanes bytes (λ b. b / 16) high_small highs highs_are high_copies) in
      zip2_of_maps (λ a b. cond (t a b) 255 0) (met lows highs) (λ _. 0) lanes both (splat_is_map lanes (16 * sixteens) 0 bytes.0)
      ∙ same_on_bytes (λ b. t (met lows highs b) 0) p agree lanes bytes.1

-- the first 64 bytes of a text as lanes
pub loaded : (bytes : List ℕ) → 64 ≤ length bytes → ((i : ℕ) → Fits w8 (slice_index bytes i)) → AreBytes 4 (chunk 0 64 bytes)
loaded bytes enough fits = (length-chunk 0 64 bytes enough, chunk-fits w8 0 64 bytes fits)

-- the bits of a mask of these
module _ (p : ℕ → Bool) (bytes : List ℕ) (enough : 64 ≤ length bytes) where
  bit_is : (b : Bool) → eqb (cond b 1 0) 1 ≡ b
  bit_is b = grind arith

  are_64 : length (chunk 0 64 bytes) ≡ 64
  are_64 = length-chunk 0 64 bytes enough

  mask_shown : {ms : List ℕ} → Shows p (chunk 0 64 bytes) ms → mask_l (map (top 7) ms) % 2 ^ 64 ≡ mask_l (map p (chunk 0 64 bytes))
  mask_shown e =
      let lanes = chunk 0 64 bytes in
      ap (λ l. mask_l l % 2 ^ 64) (tops p lanes e) ∙ mask_l-mod (map p lanes) 64 (omega (arith, length-map lanes p, are_64))

  -- they are as many as the lanes that pass
  pub ones_shown : {ms : List ℕ} → Shows p (chunk 0 64 bytes) ms → ones (mask_l (map (top 7) ms) % 2 ^ 64) + count_by p (drop 64 bytes) ≡ count_by p bytes
  ones_shown e =
      let split = sum_by-take-drop (λ x. cond (p x) 1 0) bytes 64 in
      ap (λ m. ones m + count_by p (drop 64 bytes)) (mask_shown e) ∙ ap (λ n. n + count_by p (drop 64 bytes)) (ones-mask_l p (chunk 0 64 bytes)) ∙ split

  pub bit_shown : {ms : List ℕ} → Shows p (chunk 0 64 bytes) ms → (k : ℕ) → k < 64 → is_set (mask_l (map (top 7) ms) % 2 ^ 64) k ≡ p (slice_index bytes k)
  unfolding is_set
  bit_shown e k less =
      let lanes = chunk 0 64 bytes in let start : 0 + k ≡ k = omega arith in
      ap (λ n. eqb n 1) (ap (λ m. m / 2 ^ k % 2) (mask_shown e) ∙ bit_mask_l (map p lanes) k) ∙ bit_is (slice_index_or (map p lanes) k false)
      ∙ get_or-map p lanes k 0 false (omega (arith, less, are_64)) ∙ ap p (get_or-chunk 0 64 bytes k 0 less ∙ ap (λ i. slice_index bytes i) start)
