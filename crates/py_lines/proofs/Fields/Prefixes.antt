-- Lists of which one begins with the other, and the prefixes of strings before their quotes.
use Rattle.py_lines.proofs.Prelude.{◌≡◌, ℕ, Bool, true, false, ◌||◌, List, [], ◌∷◌, ◌++◌, refl, sym, ap, ◌∙◌, ⊎_elim, codes, if◌then◌else◌, append_cancel_left, list_all, list_any, and_parts, and_from, or_parts, or_from, or_cases, both_ways, arith}
use Rattle.py_lines.specs.Character.{is_quote, is_r, is_f, is_t, is_word_start, is_word_character, is_digit}
use Rattle.py_lines.specs.PieceGrammar.{IsPrefix}
use Rattle.py_lines.specs.FieldStrings.{is_field_prefix}
use Rattle.py_lines.proofs.Text.CharacterTests.{each_of, excluded, prefix_word, quote-not-word, quote-not-start}
use Rattle.unicode_ident.proofs.Computing.{unicode_ident}

-- of two lists, one begins with the other
pub data Compared (A : Type 0) (xs ys : List A) : Type 0 where
  same : xs ≡ ys → Compared A xs ys
  longer : (y : A) (ys' : List A) → xs ≡ ys ++ y ∷ ys' → Compared A xs ys
  shorter : (x : A) (xs' : List A) → ys ≡ xs ++ x ∷ xs' → Compared A xs ys

pub compared_more : (A : Type 0) (x y : A) (xs ys : List A) → x ≡ y → Compared A xs ys → Compared A (x ∷ xs) (y ∷ ys)
compared_more A x y xs ys first (same is) = same (cc)
compared_more A x y xs ys first (longer z zs is) = longer z zs (cc)
compared_more A x y xs ys first (shorter z zs is) = shorter z zs (cc)

-- the letters of the prefixes of strings with fields are those of words, and no quotes
letter : (c : ℕ) → is_r c || is_f c || is_t c ≡ true → (is_word_start c ≡ true) × (is_word_character c ≡ true) × (is_quote c ≡ false)
unfolding unicode_ident is_r is_f is_t is_word_start is_word_character is_digit is_quote
letter c h =
    let P : ℕ → Type 0 = λ x. (is_word_start x ≡ true) × (is_word_character x ≡ true) × (is_quote x ≡ false) in
    ⊎_elim
    (λ rf. ⊎_elim (λ r. each_of P (codes "rR") c ((refl, refl, refl), ((refl, refl, refl), tt)) r) (λ f. each_of P (codes "fF") c ((refl, refl, refl), ((refl, refl, refl), tt)) f) (or_cases (is_r c) (is_f c) rf))
    (λ t. each_of P (codes "tT") c ((refl, refl, refl), ((refl, refl, refl), tt)) t) (or_cases (is_r c || is_f c) (is_t c) h)

-- Booleans
third_of : (a b c : Bool) → b || c ≡ true → a || b || c ≡ true
third_of true b c h = refl
third_of false b c h = h

abbrev IsLetter : ℕ → Type 0
IsLetter c = is_r c || is_f c || is_t c ≡ true

letters : (a b : ℕ) → is_field_prefix (a ∷ b ∷ []) ≡ true → IsLetter a × IsLetter b
letters a b h = grind arith

-- a prefix: its first letter begins a word, the others continue it, and none is a quote
pub record IsLetters (prefix : List ℕ) : Type 0 where
  pub first : ℕ
  pub others : List ℕ
  pub is : prefix ≡ first ∷ others
  pub starts : is_word_start first ≡ true
  pub all : list_all is_word_character prefix ≡ true
  pub quotes : list_any is_quote prefix ≡ false

pub field_letters : (prefix : List ℕ) → is_field_prefix prefix ≡ true → IsLetters prefix
field_letters [] h = absurd (both_ways _ refl h)
field_letters (a ∷ []) h =
    let one = letter a (third_of (is_r a) (is_f a) (is_t a) h) in
    record { first = a; others = []; is = refl; starts = one.0; all = and_from _ _ one.1 refl; quotes = or_from _ _ one.2 refl }
field_letters (a ∷ b ∷ []) h =
    let both = letters a b h in let one = letter a both.0 in let two = letter b both.1 in
    record { first = a; others = b ∷ []; is = refl; starts = one.0; all = and_from _ _ one.1 (and_from _ _ two.1 refl); quotes = or_from _ _ one.2 (or_from _ _ two.2 refl) }
field_letters (a ∷ b ∷ c ∷ cs) h = absurd (both_ways _ refl h)

-- where all pass one test, none passes another that excludes it: no letter of a word or of another prefix is a quote
pub none_in : (p q : ℕ → Bool) → ((c : ℕ) → q c ≡ true → p c ≡ false) → (cs : List ℕ) → list_all p cs ≡ true → list_any q cs ≡ false
none_in p q apart [] h = refl
none_in p q apart (c ∷ cs) h = let parts = and_parts (p c) (list_all p cs) h in or_from _ _ (excluded p q c (apart c) parts.0) (none_in p q apart cs parts.1)

pub word_quotes : (cs : List ℕ) → list_all is_word_character cs ≡ true → list_any is_quote cs ≡ false
word_quotes cs h = none_in is_word_character is_quote quote-not-word cs h

pub plain_quotes : (prefix : List ℕ) → IsPrefix prefix → list_any is_quote prefix ≡ false
plain_quotes prefix h = grind (arith, letters, prefix_word, or_from, excluded, quote-not-start, word_quotes)

-- what stands before the first quote of a text
abbrev pub before_quote : List ℕ → List ℕ
before_quote [] = []
before_quote (c ∷ cs) = if is_quote c then [] else c ∷ before_quote cs

pub before_first : (a x : List ℕ) (q : ℕ) → list_any is_quote a ≡ false → is_quote q ≡ true → before_quote (a ++ q ∷ x) ≡ a
before_first [] x q none quotes = rw quotes
before_first (c ∷ a) x q none quotes = let parts = or_parts (is_quote c) (list_any is_quote a) none in rw (parts.0) (ap (λ t. c ∷ t) (before_first a x q parts.1 quotes))

pub first_quote : (a b x y : List ℕ) (q r : ℕ) → list_any is_quote a ≡ false → list_any is_quote b ≡ false → is_quote q ≡ true → is_quote r ≡ true → a ++ q ∷ x ≡ b ++ r ∷ y → (a ≡ b) × (q ∷ x ≡ r ∷ y)
first_quote a b x y q r one two quotes also at =
    let same_prefix : a ≡ b = sym (before_first a x q one quotes) ∙ ap before_quote at ∙ before_first b y r two also in
    (same_prefix, append_cancel_left a _ _ (at ∙ ap (λ t. t ++ r ∷ y) (sym same_prefix)))
