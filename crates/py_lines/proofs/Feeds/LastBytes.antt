-- The last byte of characters: it is CR just where their last character is.
use mir.Val.{bool_byte}
use Rattle.py_lines.proofs.Prelude.{take-suc, ◌≡◌, ℕ, suc, ◌-◌, ◌<◌, ◌≤◌, Bool, true, false, List, [], ◌∷◌, ◌++◌, ◌==◌, eqb, length, take, slice_index, refl, sym, ap, ◌∙◌, append-nil, arith, encode_utf8, encode_utf8_all, ends_with, or-false, nat_tests, cases_lt, false_from_ne_true, length-le-encodes, is_return, ends}
use Rattle.py_lines.specs.ScannerState.{EndsExactly}
use Rattle.py_lines.specs.Private.LineScan.{EndsWhole}
use Rattle.py_lines.proofs.Text.CharacterTests.{return_is}
use Rattle.py_lines.proofs.Text.Utf8Shapes.{one, two, three, four}
use Rattle.py_lines.proofs.Lexings.LineEnds.{ends-append}
use Rattle.py_lines.proofs.LogicalLines.Cuts.{ends-last}

-- a byte or character of this size is no CR
no_return : (c : ℕ) → 128 ≤ c → is_return c ≡ false
no_return c wide = false_from_ne_true _ (λ returns. omega (arith, wide, return_is c returns))

-- the last byte of a character
ends-encode : (c : ℕ) → ends is_return (encode_utf8 c) ≡ is_return c
ends-encode c = grind (arith, one, no_return, cases_lt, two, three, four)

-- the last of some characters is the last of all
pub ends-later : (p : ℕ → Bool) (first later : List ℕ) → (later ≡ [] → ⊥) → ends p (first ++ later) ≡ ends p later
ends-later p first [] some = absurd (some refl)
ends-later p first (c ∷ cs) some = ends-append p first c cs

pub ends-encoded : (cs : List ℕ) → ends is_return (encode_utf8_all cs) ≡ ends is_return cs
ends-encoded [] = refl
ends-encoded (c ∷ []) = ap (ends is_return) (append-nil (encode_utf8 c)) ∙ ends-encode c
ends-encoded (c ∷ d ∷ cs) = ends-later is_return (encode_utf8 c) (encode_utf8_all (d ∷ cs)) (λ none. omega (arith, length-le-encodes (d ∷ cs), ap length none)) ∙ ends-encoded (d ∷ cs)

-- the last byte of the first so many
pub last_of : (bytes : List ℕ) (len : ℕ) → 0 < len → len ≤ length bytes → ends is_return (take len bytes) ≡ is_return (slice_index bytes (len - 1))
last_of bytes len some within =
    let next : len ≡ suc (len - 1) = omega (arith, some) in
    ap (λ (k : ℕ). ends is_return (take k bytes)) next ∙ ap (ends is_return) (take-suc bytes (len - 1) 0 (omega (arith, some, within))) ∙ ends-last is_return (take (len - 1) bytes) (slice_index bytes (len - 1))

-- what a test for CR says of it
pub last_test : (bytes : List ℕ) (len : ℕ) → 0 < len → len ≤ length bytes → (slice_index bytes (len - 1) == 13) ≡ ends is_return (take len bytes)
unfolding is_return
last_test bytes len some within = sym (last_of bytes len some within ∙ or-false (slice_index bytes (len - 1) == 13))

-- what comes after a line comes after its bytes
pub exactly_encoded : (line more : List ℕ) → EndsExactly line more → EndsExactly (encode_utf8_all line) more
exactly_encoded line more exact = rw (← ends-encoded line) at exact

-- what a test for CR at the end says
pub ends_with_return : (bytes : List ℕ) → ends_with eqb bytes (13 ∷ []) ≡ ends is_return bytes
unfolding is_return
ends_with_return [] = refl
ends_with_return (a ∷ []) = grind (arith, nat_tests)
ends_with_return (a ∷ b ∷ bs) = let more : length (a ∷ b ∷ bs) - 1 ≡ suc (length (b ∷ bs) - 1) = omega arith in rw more (ends_with_return (b ∷ bs))

pub one_most : (b : Bool) → bool_byte b ≤ 1
one_most true = omega arith
one_most false = omega arith

-- what is held after a line: one byte more after CR
pub exactly : (line after : List ℕ) (returns : Bool) → returns ≡ ends is_return line → EndsWhole line after → (bool_byte returns ≤ length after) × EndsExactly line (take (bool_byte returns) after)
exactly line after returns is whole = grind arith
