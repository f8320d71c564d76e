-- Whole characters that leave the open piece as it is.
use Rattle.py_lines.proofs.Prelude.{◌≡◌, ℕ, ◌<◌, Bool, true, List, length, take, slice_index, sym, subst, arith, length-take, IsUtf8, length-take-le, get_or-take, take-take, All-from_get_or, IsUtf8-from_ascii, IsAscii-from_all}
use Rattle.py_lines.specs.Private.Run.{IsRunOf, Spans}

-- a run of ASCII
pub low_spans : (passes runs : ℕ → Bool) (bytes : List ℕ) (n : ℕ) → IsRunOf runs bytes n
    → ((c : ℕ) → runs c ≡ true → (passes c ≡ true) × c < 128) → Spans passes bytes n
low_spans passes runs bytes n is low = record {
  run = record { within = is.within; each = λ i less. (low _ (is.each i less)).0 };
  utf8 =
      let size : length (take n bytes) ≡ n = length-take-le n bytes is.within in
      IsUtf8-from_ascii (take n bytes) (IsAscii-from_all (take n bytes) (All-from_get_or (λ b. b < 128) (take n bytes) 0 (λ i less.
      let short : i < n = omega (arith, less, size) in
      subst (λ (b : ℕ). b < 128) (sym (get_or-take n bytes i 0 short)) (low (slice_index bytes i) (is.each i short)).1)));
}

-- the text that a run begins with
pub text_spans : (passes : ℕ → Bool) (bytes text : List ℕ) (r : ℕ) → IsRunOf passes bytes r → text ≡ take (length text) (take r bytes) → IsUtf8 text
    → Spans passes bytes (length text)
text_spans passes bytes text r run prefix utf8 = grind (arith, length-take, take-take)
