-- Logical lines one after another, and their bytes.
use Rattle.std.proofs.Common.{◌≡◌, ℕ, ◌+◌, ◌<◌, suc, zero, Bool, true, false, cond, ◌||◌, List, [], ◌∷◌, ◌++◌, flat_map, length, get_or, refl, sym, ap, ◌∙◌, append_assoc, append-nil, arith, ◌&&◌}
use Rattle.std.specs.Prelude.{count_by, encode_utf8_all, replicate}
use Rattle.std.specs.List.{list_any, list_all}
use Rattle.std.proofs.lemmas.List.Sums.{sum_by-cons}
use Rattle.std.proofs.Math.Utf8.{encode}
use Rattle.std.proofs.lemmas.Bool.{both_ways, false_from_ne_true}
use Rattle.std.proofs.lemmas.Str.{encodes-append, inside_one, length-encode, len_utf8_bounds}
use Rattle.py_lines.specs.Piece.{Piece, spelled}
use Rattle.isort_sort.proofs.LineLaws.Units.{flat}
use Rattle.isort_sort.proofs.LineLaws.Parts.{spelled-append}
use Rattle.std.proofs.lemmas.List.Folds.{list_any-append, list_all-append}

-- lines with a line end after each
abbrev pub ended_lines : List ℕ → List (List ℕ) → List ℕ
ended_lines end lines = flat_map (λ l. l ++ end) lines

-- there is a line
abbrev pub AreSome : {X : Type 0} → List X → Type 0
AreSome {X} xs = (x : X) × (others : List X) × (xs ≡ x ∷ others)

pub some_append : {X : Type 0} (xs ys : List X) → AreSome ys → AreSome (xs ++ ys)
some_append [] ys h = h
some_append (x ∷ xs) ys h = (x, xs ++ ys, refl)

pub some_first : {X : Type 0} (xs ys : List X) → AreSome xs → AreSome (xs ++ ys)
some_first xs ys h = (h.0, h.1 ++ ys, ap (λ l. l ++ ys) h.2)

-- the bytes of logical lines
abbrev pub bytes_of : List (List Piece) → List ℕ
bytes_of us = encode_utf8_all (spelled (flat us))

pub bytes_of-cons : (u : List Piece) (us : List (List Piece)) → bytes_of (u ∷ us) ≡ encode_utf8_all (spelled u) ++ bytes_of us
bytes_of-cons u us = ap encode_utf8_all (spelled-append u (flat us)) ∙ encodes-append (spelled u) (spelled (flat us))

pub bytes_of-append : (us vs : List (List Piece)) → bytes_of (us ++ vs) ≡ bytes_of us ++ bytes_of vs
bytes_of-append [] vs = refl
bytes_of-append (u ∷ us) vs =
    bytes_of-cons u (us ++ vs) ∙ ap (λ (t : List ℕ). encode_utf8_all (spelled u) ++ t) (bytes_of-append us vs)
    ∙ sym (append_assoc (encode_utf8_all (spelled u)) (bytes_of us) (bytes_of vs)) ∙ ap (λ (t : List ℕ). t ++ bytes_of vs) (sym (bytes_of-cons u us))

-- tests of lists
pub none-append : {X : Type 0} (test : X → Bool) (xs ys : List X) → list_any test xs ≡ false → list_any test ys ≡ false → list_any test (xs ++ ys) ≡ false
none-append test xs ys h k = list_any-append test xs ys ∙ (λ i. h i || k i)

pub all-append : {X : Type 0} (test : X → Bool) (xs ys : List X) → list_all test xs ≡ true → list_all test ys ≡ true → list_all test (xs ++ ys) ≡ true
all-append test xs ys h k = list_all-append test xs ys ∙ (λ i. h i && k i)

pub count-replicate : {X : Type 0} (test : X → Bool) (n : ℕ) (x : X) → test x ≡ true → count_by test (replicate n x) ≡ n
count-replicate test zero x h = refl
count-replicate test (suc n) x h =
    let later = count-replicate test n x h in
    let more : 1 + count_by test (replicate n x) ≡ suc n = omega arith in
    sum_by-cons (λ y. cond (test y) 1 0) x (replicate n x) ∙ ap (λ (b : Bool). cond b 1 0 + count_by test (replicate n x)) h ∙ more

-- a test that bytes of ASCII alone pass says the same of a character and of its bytes
none_if_nowhere : (p : ℕ → Bool) (xs : List ℕ) → ((k : ℕ) → k < length xs → p (get_or xs k 0) ≡ false) → list_any p xs ≡ false
none_if_nowhere p [] h = refl
none_if_nowhere p (x ∷ xs) h =
    let first : p x ≡ false = h 0 (omega arith) in
    let later = none_if_nowhere p xs (λ k l. h (suc k) (omega arith)) in
    λ i. first i || later i

pub none_inside : (p : ℕ → Bool) → ((b : ℕ) → p b ≡ true → b < 128) → (c : ℕ) → p c ≡ false → list_any p (encode c) ≡ false
none_inside p low c h =
    none_if_nowhere p (encode c) (λ k l. false_from_ne_true _ (λ passes. both_ways _ h (ap p (inside_one c [] (encode c) k (sym (append-nil (encode c))) l (low _ passes)) ∙ passes)))

pub some_encoded : (c : ℕ) → 0 < length (encode c)
some_encoded c = omega (arith, length-encode c, len_utf8_bounds c)

-- lists one after another
pub regroup : {X : Type 0} (a b : List X) (x : X) (c d : List X) → (((a ++ b) ++ x ∷ []) ++ c) ++ d ≡ a ++ (b ++ (x ∷ (c ++ d)))
regroup a b x c d = simp append_assoc
