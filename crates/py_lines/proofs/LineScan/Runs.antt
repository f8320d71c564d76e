-- Characters whose bytes leave the open piece as it is.
use Rattle.py_lines.proofs.Prelude.{take, ◌≡◌, ℕ, ◌+◌, ◌<◌, ◌≤◌, true, false, ◌==◌, List, [], ◌∷◌, ◌++◌, length, slice_index, refl, sym, subst, arith, ⊎_elim, length-append, encode_utf8_all, encode_utf8, list_all, nat_tests, and_from, cases_lt, get_or-append-add, get_or-take, length-take-le, length-encode, len_utf8_bounds, char_from_byte, byte_from_char, is_break, is_backslash, is_quote, is_space, OpenMode}
use Rattle.py_lines.specs.declared.mode.Mode.TheVariants as opens
use Rattle.py_lines.specs.Private.Scan.{HasQuote}
use Rattle.py_lines.specs.Private.Run.{is_ascii_word, is_body_byte, stays}

pub body_parts : (q c : ℕ) → is_body_byte q c ≡ true → (c == q ≡ false) × (is_backslash c ≡ false) × (is_break c ≡ false)
unfolding is_body_byte is_backslash is_break
body_parts q c h = grind (arith, nat_tests)

-- the bytes of characters stay where a quote is one byte, and then the characters do
stays-high : (m : OpenMode) (b c : ℕ) → HasQuote m → 128 ≤ b → 128 ≤ c → stays m b ≡ true → stays m c ≡ true
unfolding is_space is_ascii_word is_break is_quote is_backslash is_body_byte
stays-high (opens.Word s) b c quote first second h = grind (arith, nat_tests)
stays-high m b c quote first second h = grind (arith, nat_tests)

ascii_or_high : (m : OpenMode) (c : ℕ) (rest : List ℕ) → HasQuote m → stays m (slice_index (encode_utf8 c ++ rest) 0) ≡ true → stays m c ≡ true
ascii_or_high m c rest quote h =
    let some : 0 < length (encode_utf8 c ++ rest) = omega (arith, length-append (encode_utf8 c) rest, length-encode c, len_utf8_bounds c) in
    ⊎_elim
    (λ (low : slice_index (encode_utf8 c ++ rest) 0 < 128). subst (λ (n : ℕ). stays m n ≡ true) (sym (char_from_byte (encode_utf8 c ++ rest) rest c refl low some)) h)
    (λ (high : 128 ≤ slice_index (encode_utf8 c ++ rest) 0).
    ⊎_elim (λ (low : c < 128). absurd (omega (arith, high, low, byte_from_char (encode_utf8 c ++ rest) rest c refl low)))
    (λ (more : 128 ≤ c). stays-high m _ c quote high more h) (cases_lt c 128)) (cases_lt (slice_index (encode_utf8 c ++ rest) 0) 128)

characters_stay : (m : OpenMode) (cs : List ℕ) → HasQuote m
    → ((i : ℕ) → i < length (encode_utf8_all cs) → stays m (slice_index (encode_utf8_all cs) i) ≡ true) → list_all (stays m) cs ≡ true
characters_stay m [] quote each = refl
characters_stay m (c ∷ cs) quote each =
    and_from (stays m c) (list_all (stays m) cs)
    (ascii_or_high m c (encode_utf8_all cs) quote (each 0 (omega (arith, length-append (encode_utf8 c) (encode_utf8_all cs), length-encode c, len_utf8_bounds c))))
    (characters_stay m cs quote (λ i less. subst (λ (n : ℕ). stays m n ≡ true) (get_or-append-add (encode_utf8 c) (encode_utf8_all cs) i 0) (each (length (encode_utf8 c) + i) (omega (arith, length-append (encode_utf8 c) (encode_utf8_all cs))))))

-- the characters of bytes that stay
pub stay_spelled : (m : OpenMode) (bytes : List ℕ) (k : ℕ) → HasQuote m → k ≤ length bytes → ((i : ℕ) → i < k → stays m (slice_index bytes i) ≡ true)
    → (run : List ℕ) → encode_utf8_all run ≡ take k bytes → list_all (stays m) run ≡ true
stay_spelled m bytes k quote within each run spell = grind (arith, length-take-le, characters_stay, get_or-take)
