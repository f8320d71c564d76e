-- Digits compared: by value, or by length and bytes where neither begins with a zero.
use Rattle.std.proofs.Common.{◌≡◌, ◌≢◌, ℕ, ◌+◌, ◌*◌, ◌<◌, ◌≤◌, ◌==◌, zero, suc, Bool, true, false, cond, List, [], ◌∷◌, length, drop, Ordering, Less, Equal, Greater, refl, sym, ◌∙◌, ap, subst, arith, ⊎_elim}
use Rattle.std.proofs.lemmas.Bool.{cases_lt}
use Rattle.std.proofs.lemmas.Bool.Decides.{Decides-eqb, not_from_Decides}
use Rattle.std.proofs.lemmas.Cmp.{ranked}
use Rattle.std.proofs.lemmas.Str.{digit_value_digit}
use Rattle.std.proofs.lemmas.Str.Parse.{digit_from_value}
use Rattle.std.specs.Char.{digit_value}
use Rattle.std.specs.Cmp.{nat_cmp_is}
use Rattle.std.specs.Cmp.Lexicographic.{slice_cmp}
use Rattle.std.specs.List.{prefix_len}
use Rattle.std.specs.Ordering.{nat_cmp, ordering_then}
use Rattle.std.specs.Str.{byte}
use Rattle.std.specs.Str.Parse.{AllDigits, digits_value, digits_value_after}

-- a byte that is a digit is its value and 48
digit_is : (c : ℕ) → digit_value c < 10 → digit_value c + 48 ≡ c
digit_is c h = digit_value_digit c (digit_from_value c h)

then_assoc : (o p q : Ordering) → ordering_then (ordering_then o p) q ≡ ordering_then o (ordering_then p q)
then_assoc Less p q = refl
then_assoc Equal p q = refl
then_assoc Greater p q = refl

then_same : (o : Ordering) → o ≡ ordering_then o Equal
then_same Less = refl
then_same Equal = refl
then_same Greater = refl

less : (m n : ℕ) → m < n → nat_cmp m n ≡ Less
less m n h = sym (nat_cmp_is m n Less h)

more : (m n : ℕ) → n < m → nat_cmp m n ≡ Greater
more m n h = sym (nat_cmp_is m n Greater h)

equal : (m n : ℕ) → m ≡ n → nat_cmp m n ≡ Equal
equal m n h = sym (nat_cmp_is m n Equal h)

-- one more digit: the numbers before it decide, and then the digits
one_more_equal : (m n c d : ℕ) → digit_value c + 48 ≡ c → digit_value d + 48 ≡ d → m ≡ n → (o : Ordering) → o ≡ nat_cmp c d
    → nat_cmp (m * 10 + digit_value c) (n * 10 + digit_value d) ≡ o
one_more_equal m n c d hc hd k Less e = let lt : c < d = ranked c d Less e in less (m * 10 + digit_value c) (n * 10 + digit_value d) (omega arith)
one_more_equal m n c d hc hd k Equal e = let same : c ≡ d = ranked c d Equal e in equal (m * 10 + digit_value c) (n * 10 + digit_value d) (omega arith)
one_more_equal m n c d hc hd k Greater e = let gt : d < c = ranked c d Greater e in more (m * 10 + digit_value c) (n * 10 + digit_value d) (omega arith)

one_more : (m n c d : ℕ) → digit_value c < 10 → digit_value d < 10 → (o : Ordering) → o ≡ nat_cmp m n
    → nat_cmp (m * 10 + digit_value c) (n * 10 + digit_value d) ≡ ordering_then o (nat_cmp c d)
one_more m n c d hc hd Less e = let lt : m < n = ranked m n Less e in less (m * 10 + digit_value c) (n * 10 + digit_value d) (omega arith)
one_more m n c d hc hd Equal e = one_more_equal m n c d (digit_is c hc) (digit_is d hd) (ranked m n Equal e) _ refl
one_more m n c d hc hd Greater e = let gt : n < m = ranked m n Greater e in more (m * 10 + digit_value c) (n * 10 + digit_value d) (omega arith)

-- numbers of equally many digits, after what stands before them
same_length : (xs ys : List ℕ) (m n : ℕ) → AllDigits 10 xs → AllDigits 10 ys → length xs ≡ length ys
    → nat_cmp (digits_value_after 10 m xs) (digits_value_after 10 n ys) ≡ ordering_then (nat_cmp m n) (slice_cmp nat_cmp xs ys)
same_length [] [] m n hx hy e = then_same (nat_cmp m n)
same_length [] (y ∷ ys) m n hx hy e = absurd (omega arith)
same_length (x ∷ xs) [] m n hx hy e = absurd (omega arith)
same_length (x ∷ xs) (y ∷ ys) m n hx hy e =
    same_length xs ys (m * 10 + digit_value x) (n * 10 + digit_value y) hx.1 hy.1 (omega arith)
    ∙ ap (λ o. ordering_then o (slice_cmp nat_cmp xs ys)) (one_more m n x y hx.0 hy.0 _ refl)
    ∙ then_assoc (nat_cmp m n) (nat_cmp x y) (slice_cmp nat_cmp xs ys)

-- a number of no more digits than another has after its first one, which isn't zero
shorter : (ys xs : List ℕ) (n : ℕ) → AllDigits 10 xs → AllDigits 10 ys → length xs ≤ length ys → 0 < n
    → digits_value_after 10 0 xs < digits_value_after 10 n ys
shorter [] [] n hx hy le pos = pos
shorter [] (x ∷ xs) n hx hy le pos = absurd (omega arith)
shorter (y ∷ ys) xs n hx hy le pos =
    ⊎_elim
    (λ (lt : length ys < length xs). let e : length xs ≡ length (y ∷ ys) = omega arith in
    ranked (digits_value_after 10 0 xs) (digits_value_after 10 n (y ∷ ys)) Less
    (sym (same_length xs (y ∷ ys) 0 n hx hy e ∙ ap (λ o. ordering_then o (slice_cmp nat_cmp xs (y ∷ ys))) (less 0 n pos))))
    (λ (ge : length xs ≤ length ys). shorter ys xs (n * 10 + digit_value y) hx hy.1 ge (omega arith))
    (cases_lt (length ys) (length xs))

no_zero : (b : Bool) (n : ℕ) → cond b (1 + n) 0 ≡ 0 → b ≡ false
no_zero true n h = absurd (omega arith)
no_zero false n h = refl

-- the first digit isn't zero
first_counts : (y : ℕ) (ys : List ℕ) → digit_value y < 10 → prefix_len (λ d. d == byte "0") (y ∷ ys) ≡ 0 → 0 < 0 * 10 + digit_value y
first_counts y ys h z =
    let is : digit_value y + 48 ≡ y = digit_is y h in
    let other : y ≢ 48 = not_from_Decides (y == 48) (Decides-eqb y 48) (no_zero (y == byte "0") (prefix_len (λ d. d == byte "0") ys) z) in
    omega arith

fewer : (xs ys : List ℕ) → AllDigits 10 xs → AllDigits 10 ys → prefix_len (λ d. d == byte "0") ys ≡ 0 → length xs < length ys
    → digits_value 10 xs < digits_value 10 ys
fewer xs [] hx hy z lt = absurd (omega arith)
fewer xs (y ∷ ys) hx hy z lt = shorter ys xs (0 * 10 + digit_value y) hx hy.1 (omega arith) (first_counts y ys hy.0 z)

-- digits that don't begin with a zero: their number decides, and then their bytes
by_length : (xs ys : List ℕ) → AllDigits 10 xs → AllDigits 10 ys → prefix_len (λ d. d == byte "0") xs ≡ 0 → prefix_len (λ d. d == byte "0") ys ≡ 0
    → (o : Ordering) → o ≡ nat_cmp (length xs) (length ys)
    → ordering_then o (slice_cmp nat_cmp xs ys) ≡ nat_cmp (digits_value 10 xs) (digits_value 10 ys)
by_length xs ys hx hy zx zy Less e = sym (less (digits_value 10 xs) (digits_value 10 ys) (fewer xs ys hx hy zy (ranked (length xs) (length ys) Less e)))
by_length xs ys hx hy zx zy Equal e = sym (same_length xs ys 0 0 hx hy (ranked (length xs) (length ys) Equal e))
by_length xs ys hx hy zx zy Greater e = sym (more (digits_value 10 xs) (digits_value 10 ys) (fewer ys xs hy hx zx (ranked (length xs) (length ys) Greater e)))

-- zeros at the start are dropped one by one
drop_one_more : (n x : ℕ) (xs : List ℕ) → drop (1 + n) (x ∷ xs) ≡ drop n xs
drop_one_more n x xs = let e : 1 + n ≡ suc n = omega arith in ap (λ k. drop k (x ∷ xs)) e

drop_step : (P : List ℕ → Type 0) (b : Bool) (n x : ℕ) (xs : List ℕ) → (b ≡ true → P (drop n xs)) → (b ≡ false → P (x ∷ xs)) → P (drop (cond b (1 + n) 0) (x ∷ xs))
drop_step P true n x xs here other = subst P (sym (drop_one_more n x xs)) (here refl)
drop_step P false n x xs here other = other refl

none_here : (b : Bool) (n : ℕ) → b ≡ false → cond b (1 + n) 0 ≡ 0
none_here true n h = cc
none_here false n h = refl

-- how many zeros the digits begin with
abbrev zeros : List ℕ → ℕ
zeros xs = prefix_len (λ d. d == byte "0") xs

no_zeros_left : (xs : List ℕ) → zeros (drop (zeros xs) xs) ≡ 0
no_zeros_left [] = refl
no_zeros_left (x ∷ xs) = drop_step (λ ys. zeros ys ≡ 0) (x == byte "0") (zeros xs) x xs (λ h. no_zeros_left xs) (λ h. none_here (x == byte "0") (zeros xs) h)

AllDigits-drop : (n : ℕ) (xs : List ℕ) → AllDigits 10 xs → AllDigits 10 (drop n xs)
AllDigits-drop zero xs h = h
AllDigits-drop (suc n) [] h = tt
AllDigits-drop (suc n) (x ∷ xs) h = AllDigits-drop n xs h.1

zero_first : (x : ℕ) (xs : List ℕ) → x ≡ 48 → digits_value 10 xs ≡ digits_value 10 (x ∷ xs)
zero_first x xs e = ap (λ d. digits_value_after 10 (0 * 10 + digit_value d) xs) (sym e)

value_left : (xs : List ℕ) → digits_value 10 (drop (zeros xs) xs) ≡ digits_value 10 xs
value_left [] = refl
value_left (x ∷ xs) = drop_step (λ ys. digits_value 10 ys ≡ digits_value 10 (x ∷ xs)) (x == byte "0") (zeros xs) x xs
    (λ h. value_left xs ∙ zero_first x xs ((Decides-eqb x 48).0 h)) (λ h. refl)

-- digits compared by how many are left and by their bytes, once the zeros at the start are gone
pub numbers_cmp : (xs ys ds es : List ℕ) → AllDigits 10 xs → AllDigits 10 ys
    → ds ≡ drop (prefix_len (λ d. d == byte "0") xs) xs → es ≡ drop (prefix_len (λ d. d == byte "0") ys) ys
    → ordering_then (nat_cmp (length ds) (length es)) (slice_cmp nat_cmp ds es) ≡ nat_cmp (digits_value 10 xs) (digits_value 10 ys)
numbers_cmp xs ys ds es hx hy ex ey =
    let dx : AllDigits 10 ds = subst (AllDigits 10) (sym ex) (AllDigits-drop (zeros xs) xs hx) in
    let dy : AllDigits 10 es = subst (AllDigits 10) (sym ey) (AllDigits-drop (zeros ys) ys hy) in
    by_length ds es dx dy (ap zeros ex ∙ no_zeros_left xs) (ap zeros ey ∙ no_zeros_left ys) _ refl
    ∙ ap (λ n. nat_cmp n (digits_value 10 es)) (ap (digits_value 10) ex ∙ value_left xs)
    ∙ ap (λ n. nat_cmp (digits_value 10 xs) n) (ap (digits_value 10) ey ∙ value_left ys)
