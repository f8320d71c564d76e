-- The bytes that a slice begins with: one, two or three of them, or a line end.
use Rattle.py_lines.proofs.Prelude.{◌≡◌, ℕ, suc, ◌+◌, ◌<◌, ◌≤◌, None, Some, List, [], ◌∷◌, length, take, drop, slice_index, refl, ap, ◌∙◌, arith, add-zero, get_or-drop, drop-cons, nat_tests, is_break}
use Rattle.py_lines.specs.Private.LineEnds.{HasOuterEnd}
use Rattle.py_lines.specs.Private.Scan.{quotes_in}

pub first_later : (bytes : List ℕ) (at : ℕ) → slice_index (drop at bytes) 0 ≡ slice_index bytes at
first_later bytes at = get_or-drop at bytes 0 0 ∙ ap (slice_index bytes) (add-zero at)

pub bytes_from : (bytes : List ℕ) (at : ℕ) → at < length bytes → drop at bytes ≡ slice_index bytes at ∷ drop (at + 1) bytes
bytes_from bytes at within = let next : suc at ≡ at + 1 = omega arith in drop-cons bytes at 0 within ∙ ap (λ (n : ℕ). slice_index bytes at ∷ drop n bytes) next

pub taken_one : (bytes : List ℕ) → 0 < length bytes → take 1 bytes ≡ slice_index bytes 0 ∷ []
taken_one [] within = absurd (omega (arith, within))
taken_one (b ∷ bs) within = refl

pub taken_two : (bytes : List ℕ) → 1 < length bytes → take 2 bytes ≡ slice_index bytes 0 ∷ slice_index bytes 1 ∷ []
taken_two [] within = absurd (omega (arith, within))
taken_two (b ∷ bs) within = ap (λ t. b ∷ t) (taken_one bs (omega (arith, within)))

-- so many quotes are some of the bytes
pub quotes_fit : (bytes : List ℕ) (n : ℕ) → Some n ≡ quotes_in bytes → (0 < n) × (n ≤ length bytes)
quotes_fit bytes n is = grind arith

-- bytes that begin with CR or LF, and with no line end that is known, are CR alone
pub no_outer_end : (bytes : List ℕ) → (slice_index bytes 0 ≡ 10 → ⊥) → (1 < length bytes → slice_index bytes 0 ≡ 13 → ⊥) → HasOuterEnd bytes None
unfolding is_break
no_outer_end [] other ends breaks = absurd (cc)
no_outer_end (b ∷ []) other ends breaks = grind (arith, nat_tests)
no_outer_end (b ∷ c ∷ bs) other ends breaks = grind (arith, nat_tests)
