-- Texts taken one after another, each unless it was taken before, are each there once, where they stand first.
use Rattle.std.proofs.Common.{◌≡◌, ℕ, Bool, true, false, cond, ◌&&◌, ◌||◌, List, [], ◌∷◌, ◌++◌, fold, refl, sym, ap, ◌∙◌, subst, append_assoc, append-nil, if◌then◌else◌}
use Rattle.std.specs.Prelude.{bytes_eq, filter, not}
use Rattle.std.specs.List.{list_any}
use Rattle.std.proofs.lemmas.List.Folds.{list_any-append}
use Rattle.std.proofs.lemmas.Slice.Eq.{bytes_eq-Decides}
use Rattle.isort_sort.specs.Member.{first_texts}

-- one text more, unless it is there
abbrev pub with_text : List (List ℕ) → List ℕ → List (List ℕ)
with_text known t = if list_any (bytes_eq t) known then known else known ++ t ∷ []

abbrev is_new : List (List ℕ) → List ℕ → Bool
is_new known t = not (list_any (bytes_eq t) known)

filtered : {X : Type 0} (b : Bool) (p : X → Bool) (x : X) (xs ys : List X) → filter p xs ≡ ys → filter p (cond b (x ∷ xs) xs) ≡ cond (b && p x) (x ∷ ys) ys
filtered true p x xs ys e = ap (λ l. cond (p x) (x ∷ l) l) e
filtered false p x xs ys e = e

filter-filter : {X : Type 0} (p q : X → Bool) (xs : List X) → filter p (filter q xs) ≡ filter (λ x. q x && p x) xs
filter-filter p q [] = refl
filter-filter p q (x ∷ xs) = filtered (q x) p x (filter q xs) (filter (λ x. q x && p x) xs) (filter-filter p q xs)

known_stays : (known : List (List ℕ)) (t u : List ℕ) → list_any (bytes_eq t) known ≡ true → (b : Bool) → bytes_eq t u ≡ b → not b && is_new known u ≡ is_new known u
known_stays known t u is true e = sym (ap not (subst (λ (x : List ℕ). list_any (bytes_eq x) known ≡ true) ((bytes_eq-Decides t u).0 e) is))
known_stays known t u is false e = refl

both_ways : (t u : List ℕ) (b : Bool) → bytes_eq t u ≡ b → bytes_eq u t ≡ b
both_ways t u true e = let same = (bytes_eq-Decides t u).0 e in (bytes_eq-Decides u t).1 (sym same)
both_ways t u false e = by (bytes_eq u t) refl
  where
    by : (b : Bool) → bytes_eq u t ≡ b → b ≡ false
    by true k = let yes : bytes_eq t u ≡ true = (bytes_eq-Decides t u).1 (sym ((bytes_eq-Decides u t).0 k)) in absurd (cc)
    by false k = refl

later : (a b : Bool) → not b && not a ≡ not (a || (b || false))
later true true = refl
later true false = refl
later false true = refl
later false false = refl

new_later : (known : List (List ℕ)) (t u : List ℕ) → not (bytes_eq t u) && is_new known u ≡ is_new (known ++ t ∷ []) u
new_later known t u =
    later (list_any (bytes_eq u) known) (bytes_eq t u)
    ∙ ap (λ b. not (list_any (bytes_eq u) known || (b || false))) (sym (both_ways t u (bytes_eq t u) refl))
    ∙ ap not (sym (list_any-append (bytes_eq u) known (t ∷ [])))

one_text : (known : List (List ℕ)) (t : List ℕ) (fs : List (List ℕ)) (b : Bool) → list_any (bytes_eq t) known ≡ b → (if b then known else known ++ t ∷ []) ++ filter (is_new (if b then known else known ++ t ∷ [])) fs ≡ known ++ cond (not b) (t ∷ filter (is_new known) (filter (λ u. not (bytes_eq t u)) fs)) (filter (is_new known) (filter (λ u. not (bytes_eq t u)) fs))
one_text known t fs true is = ap (λ l. known ++ l) (sym (filter-filter (is_new known) (λ u. not (bytes_eq t u)) fs ∙ ap (λ (p : List ℕ → Bool). filter p fs) (λ i u. known_stays known t u is (bytes_eq t u) refl i)))
one_text known t fs false is =
    append_assoc known (t ∷ []) (filter (is_new (known ++ t ∷ [])) fs)
    ∙ ap (λ l. known ++ t ∷ l) (sym (filter-filter (is_new known) (λ u. not (bytes_eq t u)) fs ∙ ap (λ (p : List ℕ → Bool). filter p fs) (λ i u. new_later known t u i)))

all_texts : (known ts : List (List ℕ)) → fold with_text known ts ≡ known ++ filter (is_new known) (first_texts ts)
all_texts known [] = sym (append-nil known)
all_texts known (t ∷ ts) = all_texts (with_text known t) ts ∙ one_text known t (first_texts ts) (list_any (bytes_eq t) known) refl

filter-all : {X : Type 0} (xs : List X) → filter (λ x. true) xs ≡ xs
filter-all [] = refl
filter-all (x ∷ xs) = ap (λ l. x ∷ l) (filter-all xs)

-- one text after another, those that are new are the first texts
pub all_first : (ts : List (List ℕ)) → fold with_text [] ts ≡ first_texts ts
all_first ts = all_texts [] ts ∙ filter-all (first_texts ts)

-- a text that was seen adds nothing, and another comes after those that were kept
pub kept_more : (known : List (List ℕ)) (t : List ℕ) (b : Bool) → list_any (bytes_eq t) known ≡ b → with_text known t ≡ (if b then known else known ++ t ∷ [])
kept_more known t b is = ap (λ (x : Bool). if x then known else known ++ t ∷ []) is

pub bytes_back : (t u : List ℕ) → bytes_eq t u ≡ bytes_eq u t
bytes_back t u = sym (both_ways t u (bytes_eq t u) refl)
