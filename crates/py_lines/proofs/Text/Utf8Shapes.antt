-- The bytes of a character, by how many there are.
use Rattle.py_lines.proofs.Prelude.{◌≡◌, ℕ, ◌+◌, ◌-◌, ◌*◌, ◌/◌, ◌<◌, ◌≤◌, true, List, [], ◌∷◌, ◌++◌, length, take, drop, sym, ap, ◌∙◌, subst, ⊎_elim, arith, length-append, get_or, scalar, next, encode, scalar_cases, StartsWithNoChar, take-append_seam, take-append-drop, take-append-le, cases_lt, lt-ltb, le-ltb, le-leb}

-- the bytes that follow a first one
abbrev pub Follows : ℕ → Type 0
Follows b = (128 ≤ b) × (b < 192)

pub one : (c : ℕ) → c < 128 → encode c ≡ c ∷ []
unfolding encode
one c h = rw (lt-ltb c 128 h)

pub two : (c : ℕ) → 128 ≤ c → c < 2048 → encode c ≡ (192 + c / 64) ∷ next c ∷ []
unfolding encode
two c l h = rw (le-ltb c 128 l, lt-ltb c 2048 h)

pub three : (c : ℕ) → 2048 ≤ c → c < 65536 → encode c ≡ (224 + c / 4096) ∷ next (c / 64) ∷ next c ∷ []
unfolding encode
three c l h = rw (le-ltb c 128 (omega arith), le-ltb c 2048 l, lt-ltb c 65536 h)

pub four : (c : ℕ) → 65536 ≤ c → encode c ≡ (240 + c / 262144) ∷ next (c / 4096) ∷ next (c / 64) ∷ next c ∷ []
unfolding encode
four c l = rw (le-ltb c 128 (omega arith), le-ltb c 2048 (omega arith), le-ltb c 65536 l)

pub high_scalar : (c : ℕ) → 57344 ≤ c → c < 1114112 → scalar c ≡ true
high_scalar c l u = rw (le-ltb c 55296 (omega arith), le-leb 57344 c l, lt-ltb c 1114112 u)

-- what holds of its bytes, however many there are
by_size : (P : List ℕ → Type 0) (c : ℕ) → (c < 128 → P (c ∷ [])) → (128 ≤ c → c < 2048 → P ((192 + c / 64) ∷ next c ∷ []))
    → (2048 ≤ c → c < 65536 → P ((224 + c / 4096) ∷ next (c / 64) ∷ next c ∷ [])) → (65536 ≤ c → P ((240 + c / 262144) ∷ next (c / 4096) ∷ next (c / 64) ∷ next c ∷ []))
    → P (encode c)
by_size P c of1 of2 of3 of4 =
    ⊎_elim (λ h. subst P (sym (one c h)) (of1 h)) (λ l. ⊎_elim (λ h. subst P (sym (two c l h)) (of2 l h))
    (λ l. ⊎_elim (λ h. subst P (sym (three c l h)) (of3 l h)) (λ l. subst P (sym (four c l)) (of4 l)) (cases_lt c 65536)) (cases_lt c 2048)) (cases_lt c 128)

-- a character of n bytes, and what it begins with
pub record Ranged (n x y z w : ℕ) : Type 0 where
  pub most : n ≤ 4
  pub wide : 128 ≤ x → 1 < n
  pub second : 1 < n → (194 ≤ x) × (x ≤ 244) × Follows y
  pub third : 2 < n → (224 ≤ x) × Follows z
  pub fourth : 3 < n → (240 ≤ x) × Follows w
  pub in_three : 224 ≤ x → x < 240 → let high : ℕ = (x - 224) * 64 + (y - 128) in (32 ≤ high) × (864 ≤ high → 896 ≤ high)
  pub in_four : 240 ≤ x → let high : ℕ = (x - 240) * 64 + (y - 128) in (16 ≤ high) × (high < 272)

abbrev pub RangedAt : ℕ → List ℕ → Type 0
RangedAt n l = Ranged n (get_or l 0 0) (get_or l 1 0) (get_or l 2 0) (get_or l 3 0)

pub ranged : (c : ℕ) (r : List ℕ) → scalar c ≡ true → RangedAt (length (encode c)) (encode c ++ r)
ranged c r s = let in_range = scalar_cases c s in by_size (λ p. RangedAt (length p) (p ++ r)) c (λ h. omega arith) (λ l h. omega arith) (λ l h. omega arith) (λ l. omega arith)

-- bytes that begin with no such ranges begin no character
pub no_char : (bytes : List ℕ) → ((n : ℕ) → n ≤ length bytes → RangedAt n bytes → ⊥) → StartsWithNoChar bytes
no_char bytes h c r s e = h (length (encode c)) (omega (arith, ap length e, length-append (encode c) r)) (subst (RangedAt (length (encode c))) (sym e) (ranged c r s))

-- bytes that begin none begin none with more, unless a longer one
pub no_longer : (bytes : List ℕ) → StartsWithNoChar bytes → ((n : ℕ) (more : List ℕ) → length bytes < n → RangedAt n (bytes ++ more) → ⊥) → (more : List ℕ) → StartsWithNoChar (bytes ++ more)
no_longer bytes none apart more c r s e =
    let n : ℕ = length (encode c) in
    ⊎_elim (λ beyond. apart n more beyond (subst (RangedAt n) (sym e) (ranged c r s)))
    (λ within. none c (drop n bytes) s (sym (take-append-drop n bytes) ∙ ap (λ t. t ++ drop n bytes) (sym (take-append-le n bytes more within) ∙ ap (take n) e ∙ take-append_seam (encode c) r))) (cases_lt (length bytes) n)
