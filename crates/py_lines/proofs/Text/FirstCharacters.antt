-- The character that bytes begin with.
use Rattle.py_lines.proofs.Prelude.{nat_tests, ◌≡◌, ◌==◌, Bool, true, false, ℕ, ◌+◌, ◌-◌, ◌<◌, ◌≤◌, Option, List, [], ◌∷◌, ◌++◌, length, take, drop, slice_get, sym, ap, ◌∙◌, subst, append_assoc, arith, length-append, length-take, take-append-drop, min, encode_utf8, encode_utf8_all, IsUtf8, MatchOption, StartsWithNoChar, all_scalars, chars, IsScalar, len_utf8, le-min, and_parts, take-take, chars_from_encodes, length-encode, len_utf8_bounds, take-add, take-append_seam, drop-append_seam, begins, BeginsWith}

-- the bytes after the character don't matter
pub begins_with : (bytes rest : List ℕ) (c : ℕ) → IsScalar c → bytes ≡ encode_utf8 c ++ rest → BeginsWith bytes c
begins_with bytes rest c scalar is = record {
  scalar = scalar;
  spell = ap (λ t. encode_utf8 c ++ t) (ap (drop (len_utf8 c)) is ∙ ap (λ (n : ℕ). drop n (encode_utf8 c ++ rest)) (sym (length-encode c)) ∙ drop-append_seam (encode_utf8 c) rest) ∙ sym is;
}

-- so many bytes it has
pub first_size : {bytes : List ℕ} {c : ℕ} → BeginsWith bytes c → len_utf8 c + length (drop (len_utf8 c) bytes) ≡ length bytes
first_size {bytes = bytes} {c = c} next = omega (arith, ap length next.spell, length-append (encode_utf8 c) (drop (len_utf8 c) bytes), length-encode c)

-- there are some bytes
pub begins_some : (passes : ℕ → Bool) (bytes : List ℕ) → begins passes bytes ≡ true → 0 < length bytes
begins_some passes [] is = absurd (cc)
begins_some passes (c ∷ rest) is = omega arith

pub some_bytes : (bytes : List ℕ) → length bytes == 0 ≡ false → 0 < length bytes
some_bytes bytes none = grind (arith, nat_tests)

-- a character has at most four bytes
four_tell : (bytes : List ℕ) (n : ℕ) → n ≡ min (length bytes) 4 → StartsWithNoChar (take n bytes) → StartsWithNoChar bytes
four_tell bytes n least bad c rest scalar is =
    let m = length (encode_utf8 c) in
    let most : length bytes ≡ m + length rest = ap length is ∙ length-append (encode_utf8 c) rest in
    let all : m ≤ min (length bytes) 4 = le-min (omega (arith, most)) (omega (arith, length-encode c, len_utf8_bounds c)) in
    let both : n ≡ m + (n - m) = omega (arith, least, all) in
    bad c (take (n - m) rest) scalar (
    ap (take n) is ∙ ap (λ (k : ℕ). take k (encode_utf8 c ++ rest)) both ∙ take-add m (n - m) (encode_utf8 c ++ rest)
    ∙ (λ i. take-append_seam (encode_utf8 c) rest i ++ take (n - m) (drop-append_seam (encode_utf8 c) rest i)))

-- the first character of the text that the first four bytes begin with
pub first_of : (bytes text : List ℕ) (n : ℕ) (r : Option ℕ) → n ≡ min (length bytes) 4 → text ≡ take (length text) (take n bytes)
    → StartsWithNoChar (drop (length text) (take n bytes)) → IsUtf8 text → r ≡ slice_get (chars text) 0 → MatchOption r (StartsWithNoChar bytes) (BeginsWith bytes)
first_of bytes text n r least prefix bad (cs, (fine, spell)) is =
    subst (λ o. MatchOption o (StartsWithNoChar bytes) (BeginsWith bytes)) (sym (is ∙ ap (λ l. slice_get l 0) (sym (chars_from_encodes cs text (cs, (fine, spell)) spell)))) (first cs fine spell)
  where
    first : (cs : List ℕ) → all_scalars cs ≡ true → encode_utf8_all cs ≡ text → MatchOption (slice_get cs 0) (StartsWithNoChar bytes) (BeginsWith bytes)
    first [] fine spell = four_tell bytes n least (subst (λ (t : List ℕ). StartsWithNoChar (drop (length t) (take n bytes))) (sym spell) bad)
    first (c ∷ cs) fine spell =
        let k = length text in
        let short : k ≤ n = omega (arith, ap length prefix, length-take k (take n bytes), length-take n bytes) in
        begins_with bytes (encode_utf8_all cs ++ drop k bytes) c (and_parts _ _ fine).0 (
        sym (take-append-drop k bytes) ∙ ap (λ l. l ++ drop k bytes) (sym (take-take k n bytes short) ∙ sym prefix ∙ sym spell)
        ∙ append_assoc (encode_utf8 c) (encode_utf8_all cs) (drop k bytes))
