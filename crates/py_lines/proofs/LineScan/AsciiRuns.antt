-- Runs of bytes of ASCII, and what they begin.
use Rattle.py_lines.proofs.Prelude.{◌≡◌, ℕ, zero, suc, ◌<◌, ◌≤◌, Bool, true, false, List, [], ◌∷◌, ◌++◌, length, take, slice_index, refl, leb, ap, ◌∙◌, arith, Fits, w8, encode_utf8_all, codes, not, nat_lt, all_scalars, list_all, and_parts, and_from, leb-false, lt-ltb, ltb-true, encode_ascii, low_scalar, nat_tests}
use Rattle.py_lines.specs.Character.{is_space, is_word_start, is_word_character, is_digit, is_quote, is_operator, is_break}
use Rattle.py_lines.specs.Private.Machine.{IsFull}
use Rattle.py_lines.specs.Private.Run.{is_ascii_word, is_line_byte}
use Rattle.py_lines.proofs.Text.CharacterTests.{none_of, excluded}
use Rattle.unicode_ident.proofs.IdentLemmas.{is_xid_continue-ascii, is_xid_start-ascii}

-- space, line ends and quotes are ASCII
pub space_low : (c : ℕ) → is_space c ≡ true → c < 128
unfolding is_space
space_low c h = leb-false 128 c (none_of (λ d. leb 128 d) (codes " \t" ++ 0x0C ∷ []) c refl h)

pub break_low : (c : ℕ) → is_break c ≡ true → c < 128
unfolding is_break
break_low c h = leb-false 128 c (none_of (λ d. leb 128 d) (codes "\n\r") c refl h)

pub quote_ascii : (q : ℕ) → is_quote q ≡ true → q < 128
unfolding is_quote
quote_ascii q h = leb-false 128 q (none_of (λ d. leb 128 d) (codes "'\"") q refl h)

pub quote_fits : (q : ℕ) → is_quote q ≡ true → Fits w8 q
quote_fits q h = let low = quote_ascii q h in omega arith

-- a byte of words continues a word
pub word_byte_low : (c : ℕ) → is_ascii_word c ≡ true → c < 128
unfolding is_ascii_word
word_byte_low c h = grind (arith, nat_tests)

pub word_byte_continues : (c : ℕ) → c < 128 → is_word_character c ≡ is_ascii_word c
unfolding is_ascii_word is_word_character
word_byte_continues c low = is_xid_continue-ascii c low

-- and begins one
pub word_byte_starts : (c : ℕ) → c < 128 → is_word_start c ≡ is_ascii_word c
unfolding is_ascii_word is_word_start is_digit
word_byte_starts c low = grind (arith, nat_tests, is_xid_start-ascii c low)

-- a run of bytes as a list
pub all_pass : (passes : ℕ → Bool) (bytes : List ℕ) (n : ℕ) → n ≤ length bytes → ((i : ℕ) → i < n → passes (slice_index bytes i) ≡ true)
    → list_all passes (take n bytes) ≡ true
all_pass passes bytes zero within each = refl
all_pass passes [] (suc n) within each = refl
all_pass passes (b ∷ bs) (suc n) within each = and_from (passes b) (list_all passes (take n bs)) (each 0 (omega arith))
    (all_pass passes bs n (omega (arith, within)) (λ i less. each (suc i) (omega (arith, less))))

-- which holds some
pub full_take : (bytes : List ℕ) (n : ℕ) → 1 ≤ n → n < length bytes → IsFull (take n bytes)
full_take bytes n some within = grind arith

-- the characters of a run of bytes
pub low_encodes : (passes : ℕ → Bool) (run : List ℕ) → ((c : ℕ) → passes c ≡ true → c < 128) → list_all passes run ≡ true
    → (encode_utf8_all run ≡ run) × (all_scalars run ≡ true)
low_encodes passes [] low all = (refl, refl)
low_encodes passes (c ∷ cs) low all =
    let parts = and_parts (passes c) (list_all passes cs) all in
    let others = low_encodes passes cs low parts.1 in (
      ap (λ t. t ++ encode_utf8_all cs) (encode_ascii c (low c parts.0)) ∙ ap (λ t. c ∷ t) others.0,
      and_from _ _ (low_scalar c (omega (arith, low c parts.0))) others.1,
    )

-- a word
pub word_starts : (c : ℕ) → is_ascii_word c ≡ true → is_word_start c ≡ true
word_starts c h = word_byte_starts c (word_byte_low c h) ∙ h

pub space-not-quote : (c : ℕ) → is_space c ≡ true → is_quote c ≡ false
unfolding is_space is_quote
space-not-quote c h = none_of is_quote (codes " \t" ++ 0x0C ∷ []) c refl h

-- an operator after closed pieces
pub operator-no_break : (c : ℕ) → is_operator c ≡ true → is_break c ≡ false
unfolding is_operator is_break
operator-no_break c h = none_of is_break (codes "+-*/%@&|^~<>=!()[]{},:.;") c refl h

-- a string after closed pieces
pub quote-no_break : (c : ℕ) → is_quote c ≡ true → is_break c ≡ false
unfolding is_quote is_break
quote-no_break c h = none_of is_break (codes "'\"") c refl h

-- neither a quote nor a space is of a word
pub quote-no_word : (c : ℕ) → is_quote c ≡ true → is_ascii_word c ≡ false
unfolding is_quote is_ascii_word
quote-no_word c h = none_of is_ascii_word (codes "'\"") c refl h

-- nor is a line end
pub word-no_break : (c : ℕ) → is_ascii_word c ≡ true → is_break c ≡ false
unfolding is_ascii_word is_break
word-no_break c h = excluded is_ascii_word is_break c (λ breaks. none_of is_ascii_word (codes "\n\r") c refl breaks) h

pub space-no_word : (c : ℕ) → is_space c ≡ true → is_ascii_word c ≡ false
unfolding is_space is_ascii_word
space-no_word c h = none_of is_ascii_word (codes " \t" ++ 0x0C ∷ []) c refl h

abbrev pub is_low : ℕ → Bool
is_low c = nat_lt c 128

pub low_is : (c : ℕ) → nat_lt c 128 ≡ true → c < 128
low_is c h = ltb-true c 128 h

pub is_low_from : (c : ℕ) → c < 128 → nat_lt c 128 ≡ true
is_low_from c h = lt-ltb c 128 h

-- what passes one test passes another, where each number does
pub all_also : (p q : ℕ → Bool) → ((c : ℕ) → p c ≡ true → q c ≡ true) → (cs : List ℕ) → list_all p cs ≡ true → list_all q cs ≡ true
all_also p q each [] all = refl
all_also p q each (c ∷ cs) all =
    let parts = and_parts (p c) (list_all p cs) all in and_from (q c) (list_all q cs) (each c parts.0) (all_also p q each cs parts.1)

-- ASCII on one line
pub line_byte : (c : ℕ) → c < 128 → is_break c ≡ false → is_line_byte c ≡ true
line_byte c low none = and_from _ _ (is_low_from c low) (ap not none)

pub line_byte_low : (c : ℕ) → is_line_byte c ≡ true → c < 128
line_byte_low c h = low_is c (and_parts (is_low c) (not (is_break c)) h).0
