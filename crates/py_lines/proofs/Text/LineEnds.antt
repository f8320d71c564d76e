-- Line ends, counted in the bytes of a text: the bytes of other characters are neither LF nor CR.
use Rattle.py_lines.proofs.Prelude.{◌≡◌, ℕ, zero, suc, ◌+◌, ◌-◌, ◌<◌, ◌≤◌, true, false, cond, not, ◌&&◌, eqb, List, [], ◌∷◌, ◌++◌, length, take, drop, refl, ⊎_elim, arith, encode_utf8_all, count_by, ends_with, list_all, starts_with, sum_by-cons, cases_lt, false_from_ne_true, is_break, is_line_feed, is_return, line_ends}
use mir.Val.{bool_byte}
use native.Mathlib.Numerals.{unary_clauses}
use Rattle.memchr.specs.Find.{Nowhere, Passes, is_byte}
use Rattle.py_lines.specs.Private.LineEnds.{lone_returns}
use Rattle.py_lines.proofs.Text.CharacterTests.{Each, feed_is, return_is}
use Rattle.py_lines.proofs.Text.HighBytes.{encoded_begins, high_bytes, low_even}
use Rattle.py_lines.proofs.Text.Utf8Shapes.{one}

-- line ends are LF, and CR that isn't before LF, in any list of numbers
line_ends-is : (cs : List ℕ) → line_ends cs ≡ count_by (is_byte 10) cs + lone_returns cs
unfolding is_line_feed is_return
line_ends-is [] = refl
line_ends-is (c ∷ cs) = let feed = sum_by-cons (λ x. cond (is_byte 10 x) 1 0) c cs in grind (arith, feed, line_ends-is cs)

-- the bytes of characters hold as many, since both are ASCII
none_high : (b : ℕ) → 128 ≤ b → (is_line_feed b ≡ false) × (is_return b ≡ false)
none_high b high = (false_from_ne_true _ (λ h. omega (arith, feed_is b h)), false_from_ne_true _ (λ h. omega (arith, return_is b h)))

past_high : (bs ts : List ℕ) → Each (λ b. 128 ≤ b) bs → line_ends (bs ++ ts) ≡ line_ends ts
past_high [] ts each = refl
past_high (b ∷ bs) ts each = let (no_feed, no_return) = none_high b each.0 in rw (no_feed, no_return) (omega (arith, past_high bs ts each.1))

pub line_ends-encoded : (cs : List ℕ) → line_ends (encode_utf8_all cs) ≡ line_ends cs
line_ends-encoded [] = refl
line_ends-encoded (c ∷ cs) =
    ⊎_elim (λ low.
    rw (one c low, encoded_begins is_line_feed (low_even is_line_feed (λ b h. omega (arith, feed_is b h))) cs, line_ends-encoded cs) refl) (λ high.
    let h = high_bytes c high in let (no_feed, no_return) = none_high c high in
    rw (h.is, no_feed, no_return) (omega (arith, line_ends-encoded cs, past_high (h.first ∷ h.others) (encode_utf8_all cs) h.high))) (cases_lt c 128)

-- those of some bytes, by how many LF they hold
pub ends_counted : (bytes : List ℕ) (feeds : ℕ) → feeds ≡ count_by (is_byte 10) bytes → feeds + lone_returns bytes ≡ line_ends bytes
ends_counted bytes feeds counted = omega (arith, counted, line_ends-is bytes)

-- those from the first CR on, and none where there is no CR
pub lone_more : (bytes : List ℕ) (at : ℕ) → Nowhere (Passes (is_byte 13) bytes) 0 at → at < length bytes → Passes (is_byte 13) bytes at
    → lone_returns bytes ≡ bool_byte (not (starts_with eqb (drop (at + 1) bytes) (10 ∷ []))) + lone_returns (drop (at + 1) bytes)
unfolding is_return is_line_feed
lone_more [] at none within is = absurd (omega (arith, within))
lone_more (b ∷ []) zero none within is = rw is refl
lone_more (b ∷ c ∷ bs) zero none within is = grind (arith, is)
lone_more (b ∷ bs) (suc at) none within is =
    let first = false_from_ne_true _ (none 0 (omega arith) (omega arith)) in
    let on = lone_more bs at (λ k low high. none (suc k) (omega arith) (omega (arith, high))) (omega (arith, within)) is in
    simp unary_clauses (rw first (omega (arith, simp unary_clauses at on)))

pub none_lone : (bytes : List ℕ) → Nowhere (Passes (is_byte 13) bytes) 0 (length bytes) → lone_returns bytes ≡ 0
unfolding is_return
none_lone [] none = refl
none_lone (b ∷ bs) none =
    let first = false_from_ne_true _ (none 0 (omega arith) (omega arith)) in
    rw first (omega (arith, none_lone bs (λ k low high. none (suc k) (omega arith) (omega (arith, high)))))

-- those of both parts: CR LF that is cut counts in both
pub cut_ends : (n : ℕ) (bytes : List ℕ) → n ≤ length bytes → let cut = ends_with eqb (take n bytes) (13 ∷ []) && starts_with eqb (drop n bytes) (10 ∷ []) in
    (bool_byte cut ≤ line_ends (take n bytes)) × (line_ends (take n bytes) - bool_byte cut + line_ends (drop n bytes) ≡ line_ends bytes)
unfolding is_line_feed is_return
cut_ends zero bytes within = omega arith
cut_ends (suc zero) (b ∷ []) within = grind arith
cut_ends (suc zero) (b ∷ c ∷ bs) within = grind arith
cut_ends (suc (suc n)) (b ∷ c ∷ bs) within =
    let on = simp unary_clauses at (cut_ends (suc n) (c ∷ bs) (omega (arith, within))) in
    simp unary_clauses (omega (arith, on.0), omega (arith, on.0, on.1))
cut_ends (suc (suc n)) (b ∷ []) within = absurd (omega (arith, within))
cut_ends (suc n) [] within = absurd (omega (arith, within))

-- characters without a line end
pub unbroken : (cs : List ℕ) → list_all (λ d. not (is_break d)) cs ≡ true → 0 ≡ line_ends cs
unfolding is_break is_line_feed is_return
unbroken [] all = refl
unbroken (c ∷ cs) all = grind (arith, all, unbroken cs)
