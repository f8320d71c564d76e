-- The byte that a character begins with tells the character where it is ASCII.
use Rattle.py_lines.proofs.Prelude.{◌≡◌, ℕ, ◌<◌, ◌==◌, false, slice_index, sym, ap, ◌∙◌, arith, ⊎_elim, encode_utf8, cases_lt, eqb-true, false_from_ne_true, encode_ascii, low_scalar}
use Rattle.py_lines.specs.Private.Scan.{IsFirstByte}
use Rattle.py_lines.proofs.Text.HighBytes.{high_bytes}

-- a character of ASCII begins with itself
own_first : (c : ℕ) → c < 128 → slice_index (encode_utf8 c) 0 ≡ c
own_first c low = ap (λ t. slice_index t 0) (encode_ascii c low)

pub first_self : (c : ℕ) → c < 128 → IsFirstByte c c
first_self c low = (low_scalar c (omega (arith, low)), own_first c low)

-- and no other begins with it
pub first_low : (b c : ℕ) → b < 128 → IsFirstByte b c → c ≡ b
first_low b c low (scalar, first) = ⊎_elim (λ narrow. sym (own_first c narrow) ∙ first) (λ wide.
    let bytes = high_bytes c wide in let is : bytes.first ≡ b = sym (ap (λ t. slice_index t 0) bytes.is) ∙ first in
    absurd (omega (arith, low, bytes.high.0, is))) (cases_lt c 128)

-- a character that begins with another byte than one of ASCII is another one
pub first_other : (b c d : ℕ) → IsFirstByte b c → d < 128 → (b ≡ d → ⊥) → c == d ≡ false
first_other b c d (scalar, first) low other =
    false_from_ne_true (c == d) (λ same. other (sym first ∙ ap (λ n. slice_index (encode_utf8 n) 0) (eqb-true c d same) ∙ own_first d low))
