-- The spelling of a word, also as its bytes have it, says whether the word is the prefix of a string.
use Rattle.py_lines.proofs.Prelude.{◌≡◌, ℕ, ◌≤◌, true, false, Bool, ◌||◌, List, [], ◌∷◌, refl, sym, ap, ◌∙◌, arith, ⊎_elim, codes, encode_utf8_all, nat_le, list_all, list_any, and-false, or-false, and_from, or_right, both_ways, cases_lt, cases_Bool, leb-false, lt-ltb, false_from_ne_true, encodes_same}
use Rattle.py_lines.specs.Character.{is_one_of, is_r, is_b, is_f, is_t, is_u}
use Rattle.py_lines.specs.PieceGrammar.{is_prefix}
use Rattle.py_lines.specs.FieldStrings.{is_field_prefix}
use Rattle.py_lines.specs.Fields.{fielded}
use Rattle.py_lines.specs.Private.Machine.{begins_string, first_spelling, is_field_spelling, spelling_on}
use Rattle.py_lines.specs.Private.Run.{word_spelling}
use Rattle.py_lines.proofs.Text.CharacterTests.{none_of}
use Rattle.py_lines.proofs.LineScan.AsciiRuns.{is_low, low_encodes, low_is}
use Rattle.py_lines.proofs.Machine.Spellings.{field_begins, prefix_spelling, other_begins, word_tells}

-- a word is a prefix exactly where its spelling says so
pub fielded_spelling : (first : ℕ) (others : List ℕ) → fielded.is_prefix (first ∷ others) ≡ begins_string (spelling_on (first_spelling first) others)
fielded_spelling first others =
    let s = spelling_on (first_spelling first) others in let plain = is_prefix (first ∷ others) in
    let tells = (word_tells first others).0 in
    ⊎_elim (λ (is : is_field_spelling s ≡ true). or_right plain (is_field_prefix (first ∷ others)) (tells ∙ is) ∙ sym (field_begins s is))
    (λ (is : is_field_spelling s ≡ false).
    ap (λ b. plain || b) (tells ∙ is) ∙ or-false plain ∙ prefix_spelling first others ∙ sym (other_begins s is)) (cases_Bool (is_field_spelling s))

-- a character that isn't ASCII is no letter of a prefix
abbrev IsNoLetter : ℕ → Type 0
IsNoLetter c = (is_r c ≡ false) × (is_b c ≡ false) × (is_f c ≡ false) × (is_t c ≡ false) × (is_u c ≡ false)

no_letter : (c : ℕ) → 128 ≤ c → IsNoLetter c
unfolding is_r is_b is_f is_t is_u
no_letter c high = (none (codes "rR") refl, none (codes "bB") refl, none (codes "fF") refl, none (codes "tT") refl, none (codes "uU") refl) where
  none : (letters : List ℕ) → list_any (nat_le 128) letters ≡ false → is_one_of letters c ≡ false
  none letters low = false_from_ne_true _ (λ one. omega (arith, high, leb-false 128 c (none_of (nat_le 128) letters c low one)))

low_unless : (c : ℕ) → (IsNoLetter c → ⊥) → is_low c ≡ true
low_unless c letter = ⊎_elim (λ low. lt-ltb c 128 low) (λ high. absurd (letter (no_letter c high))) (cases_lt c 128)

-- so the letters of a prefix are ASCII
pub prefix_low : (word : List ℕ) → begins_string (word_spelling word) ≡ true → list_all is_low word ≡ true
prefix_low [] begun = refl
prefix_low (a ∷ cs) begun = by cs (fielded_spelling a cs ∙ begun) where
  by : (others : List ℕ) → fielded.is_prefix (a ∷ others) ≡ true → list_all is_low (a ∷ others) ≡ true
  by [] is = and_from (is_low a) true (low_unless a (λ no. both_ways _ (rw (no.0, no.1, no.2, no.3, no.4)) is)) refl
  by (b ∷ []) is =
      and_from (is_low a) _ (low_unless a (λ no. both_ways _ (rw (no.0, no.1, no.2, no.3)) is))
      (and_from (is_low b) true (low_unless b (λ no. both_ways _ (simp (no.0, no.1, no.2, no.3, and-false)) is)) refl)
  by (b ∷ c ∷ others) is = absurd (both_ways _ refl is)

-- bytes of ASCII are the characters that they spell
low_encoded : (cs : List ℕ) → list_all is_low (encode_utf8_all cs) ≡ true → encode_utf8_all cs ≡ cs
low_encoded cs all = sym (encodes_same cs (encode_utf8_all cs) (sym (low_encodes is_low (encode_utf8_all cs) low_is all).0))

-- so a word is a prefix where its bytes are
pub prefix_encoded : (word : List ℕ) → begins_string (word_spelling (encode_utf8_all word)) ≡ begins_string (word_spelling word)
prefix_encoded word = ⊎_elim (λ bytes. ap begins_word (low_encoded word (prefix_low (encode_utf8_all word) bytes))) (λ other.
    ⊎_elim (λ is. ap begins_word (low_encodes is_low word low_is (prefix_low word is)).0) (λ none. other ∙ sym none) (cases_Bool (begins_word word)))
    (cases_Bool (begins_word (encode_utf8_all word)))
  where
    begins_word : List ℕ → Bool
    begins_word text = begins_string (word_spelling text)
