-- Characters that aren't ASCII, their bytes, and tests that make no difference between numbers from 128 on.
use Rattle.py_lines.proofs.Prelude.{◌≡◌, ℕ, ◌<◌, ◌≤◌, Bool, true, List, [], ◌∷◌, ◌++◌, refl, ap, ◌∙◌, ⊎_elim, arith, encode_utf8, encode_utf8_all, list_all, and_from, and_parts, cases_lt, list_all-append, begins}
use Rattle.py_lines.proofs.Text.CharacterTests.{Each}
use Rattle.py_lines.proofs.Text.Utf8Shapes.{one, two, three, four}

-- the bytes of a character that isn't ASCII
pub record HighBytes (c : ℕ) : Type 0 where
  pub first : ℕ
  pub others : List ℕ
  pub is : encode_utf8 c ≡ first ∷ others
  pub high : Each (λ b. 128 ≤ b) (first ∷ others)

pub high_bytes : (c : ℕ) → 128 ≤ c → HighBytes c
high_bytes c high = ⊎_elim (λ short. record { first = _; others = _; is = two c high short; high = (omega arith, (omega arith, tt)) }) (λ long. ⊎_elim
    (λ short. record { first = _; others = _; is = three c long short; high = (omega arith, (omega arith, (omega arith, tt))) })
    (λ longer. record { first = _; others = _; is = four c longer; high = (omega arith, (omega arith, (omega arith, (omega arith, tt)))) }) (cases_lt c 65536))
    (cases_lt c 2048)

-- whether a test makes no difference between numbers from 128 on
abbrev pub IsEvenAbove : (ℕ → Bool) → Type 0
IsEvenAbove passes = (c b : ℕ) → 128 ≤ c → 128 ≤ b → passes c ≡ passes b

-- as one that ASCII alone passes
pub low_even : (passes : ℕ → Bool) → ((c : ℕ) → passes c ≡ true → c < 128) → IsEvenAbove passes
low_even passes low c b one two = grind arith

-- then the bytes of a character pass where it does, and of characters
high_pass : (passes : ℕ → Bool) → IsEvenAbove passes → (c : ℕ) → 128 ≤ c → passes c ≡ true → (bs : List ℕ) → Each (λ b. 128 ≤ b) bs → list_all passes bs ≡ true
high_pass passes even c high h [] each = refl
high_pass passes even c high h (b ∷ bs) each = and_from (passes b) _ (even b c each.0 high ∙ h) (high_pass passes even c high h bs each.1)

character_passes : (passes : ℕ → Bool) → IsEvenAbove passes → (c : ℕ) → passes c ≡ true → list_all passes (encode_utf8 c) ≡ true
character_passes passes even c h = ⊎_elim (λ low. ap (list_all passes) (one c low) ∙ and_from (passes c) true h refl) (λ high.
    let bytes = high_bytes c high in
    ap (list_all passes) bytes.is ∙ high_pass passes even c high h (bytes.first ∷ bytes.others) bytes.high) (cases_lt c 128)

pub encoded_passes : (passes : ℕ → Bool) → IsEvenAbove passes → (cs : List ℕ) → list_all passes cs ≡ true → list_all passes (encode_utf8_all cs) ≡ true
encoded_passes passes even [] h = refl
encoded_passes passes even (c ∷ cs) h =
    let parts = and_parts (passes c) (list_all passes cs) h in
    list_all-append passes (encode_utf8 c) (encode_utf8_all cs) ∙ and_from _ _ (character_passes passes even c parts.0) (encoded_passes passes even cs parts.1)

pub encoded_begins : (passes : ℕ → Bool) → IsEvenAbove passes → (cs : List ℕ) → begins passes (encode_utf8_all cs) ≡ begins passes cs
encoded_begins passes even [] = refl
encoded_begins passes even (c ∷ cs) = ⊎_elim (λ low. ap (λ t. begins passes (t ++ encode_utf8_all cs)) (one c low)) (λ high.
    let bytes = high_bytes c high in
    ap (λ t. begins passes (t ++ encode_utf8_all cs)) bytes.is ∙ even bytes.first c bytes.high.0 high) (cases_lt c 128)
