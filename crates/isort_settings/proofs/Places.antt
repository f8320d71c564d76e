-- The place of the first element that passes a test, and the lists of own sections by their places.
use Rattle.std.proofs.Common.{◌≡◌, IfSome, ℕ, ◌+◌, ◌==◌, ◌<◌, sym, suc, Bool, true, false, not, ◌||◌, cond, List, [], ◌∷◌, ◌++◌, map, length, Option, Some, None, option_map, unwrap_or, refl, ◌∙◌, ap, arith, inl, inr}
use Rattle.std.proofs.lemmas.Bool.{cases_eq, eq-eqb, ne_eqb, cases_lt, lt-ltb, le-ltb}
use Rattle.std.proofs.lemmas.Iterator.Adapters.{position_from-zero}
use Rattle.std.proofs.lemmas.List.Folds.{find-append}
use Rattle.std.proofs.lemmas.List.Sums.{prefix_len-le-length}
use Rattle.std.specs.Cmp.Lexicographic.{pointwise}
use Rattle.std.specs.List.{find, list_any, position, position_from, position_or_len, enumerate_from}
use Rattle.std.specs.Option.{is_some, option_or}
use Rattle.isort_settings.specs.declared.section.Section.{Section}
use Rattle.isort_settings.specs.declared.section.Section.TheVariants.{Own}
use Rattle.isort_settings.specs.FiveSections.{same_section}
use Rattle.isort_settings.specs.Holds.{holds}
use Rattle.isort_settings.specs.Sections.{lists_of, own_lists_of, five_lists_of}
use Rattle.isort_settings.specs.Sections.OnePrefix.{section_holding}
use Rattle.isort_settings.specs.Values.{Values}

-- the place, if there is one, and else the length
pub place_or_len : {X : Type 0} (p : X → Bool) (xs : List X) → unwrap_or (position p xs) (length xs) ≡ position_or_len p xs
place_or_len p xs =
    elim (cases_lt (position_or_len p xs) (length xs)) [
      | inl below ↦ rw (lt-ltb (position_or_len p xs) (length xs) below) refl
      | inr above ↦
          let at_end : length xs ≡ position_or_len p xs = omega (arith, above, prefix_len-le-length (λ x. not (p x)) xs) in
          rw (le-ltb (position_or_len p xs) (length xs) above) at_end
    ]

-- an element more at the end
pub place-push : {X : Type 0} (p : X → Bool) (i : ℕ) (xs : List X) (y : X)
    → position_from p i (xs ++ y ∷ []) ≡ option_or (position_from p i xs) (cond (p y) (Some (i + length xs)) None)
place-push p i [] y = ap (λ n. cond (p y) (Some n) None) (omega arith)
place-push p i (x ∷ xs) y =
    elim (p x) as (λ b. cond b (Some i) (position_from p (i + 1) (xs ++ y ∷ [])) ≡ option_or (cond b (Some i) (position_from p (i + 1) xs)) (cond (p y) (Some (i + suc (length xs))) None)) [
      | true ↦ refl
      | false ↦ place-push p (i + 1) xs y ∙ ap (λ n. option_or (position_from p (i + 1) xs) (cond (p y) (Some n) None)) (omega arith)
    ]

-- a place is one of the list's
pub place_within : {X : Type 0} (p : X → Bool) (i : ℕ) (xs : List X) → IfSome (position_from p i xs) (λ n. n < i + length xs)
place_within p i [] = tt
place_within p i (x ∷ xs) =
    let next : i + 1 + length xs ≡ i + suc (length xs) = omega arith in
    elim (p x) as (λ b. IfSome (cond b (Some i) (position_from p (i + 1) xs)) (λ n. n < i + suc (length xs))) [
      | true ↦ omega arith
      | false ↦ rw next at (place_within p (i + 1) xs)
    ]

some_step : (b : Bool) (i : ℕ) (later : Option ℕ) (rest : Bool) → is_some later ≡ rest → is_some (cond b (Some i) later) ≡ (b || rest)
some_step true i later rest e = refl
some_step false i later rest e = e

some_from : {X : Type 0} (p : X → Bool) (i : ℕ) (xs : List X) → is_some (position_from p i xs) ≡ list_any p xs
some_from p i [] = refl
some_from p i (x ∷ xs) = some_step (p x) i (position_from p (i + 1) xs) (list_any p xs) (some_from p (i + 1) xs)

-- there is a place just where an element passes the test
pub some_place : {X : Type 0} (p : X → Bool) (xs : List X) → is_some (position p xs) ≡ list_any p xs
some_place p xs = ap is_some (position_from-zero p xs) ∙ some_from p 0 xs

-- a place among other things that pass the same test
pub place_from-map : {X Y : Type 0} (p : Y → Bool) (f : X → Y) (i : ℕ) (xs : List X) → position_from (λ x. p (f x)) i xs ≡ position_from p i (map f xs)
place_from-map p f i [] = refl
place_from-map p f i (x ∷ xs) = ap (λ o. cond (p (f x)) (Some i) o) (place_from-map p f (i + 1) xs)

abbrev SectionList : Type 0
SectionList = Section × List (List ℕ)

-- the own section whose list is the first to hold a text
own_holding : (i : ℕ) (lists : List (List (List ℕ))) (text : List ℕ)
    → section_holding (map (λ l. (Own l.0, l.1)) (enumerate_from i lists)) text ≡ option_map (λ n. Own n) (position_from (λ l. holds l text) i lists)
own_holding i [] text = refl
own_holding i (l ∷ ls) text =
    elim (holds l text) as (λ b. option_map (λ (s : SectionList). s.0) (cond b (Some (Own i, l)) (find (λ (s : SectionList). holds s.1 text) (map (λ (k : ℕ × List (List ℕ)). (Own k.0, k.1)) (enumerate_from (i + 1) ls)))) ≡ option_map (λ n. Own n) (cond b (Some i) (position_from (λ k. holds k text) (i + 1) ls))) [
      | true ↦ refl
      | false ↦ own_holding (i + 1) ls text
    ]

or_map : {A : Type 0} (f : A → Section) (o p : Option A) → option_map f (option_or o p) ≡ option_or (option_map f o) (option_map f p)
or_map f None p = refl
or_map f (Some x) p = refl

-- the own lists are looked up first, and then those of the five
pub own_lists_first : (v : Values) (text : List ℕ)
    → section_holding (lists_of v) text ≡ option_or (option_map (λ n. Own n) (position_from (λ l. holds l text) 0 v.own_lists)) (section_holding (five_lists_of v) text)
own_lists_first v text =
    ap (option_map (λ (s : SectionList). s.0)) (find-append (λ (s : SectionList). holds s.1 text) (own_lists_of v) (five_lists_of v))
    ∙ or_map (λ (s : SectionList). s.0) (find (λ (s : SectionList). holds s.1 text) (own_lists_of v)) _
    ∙ ap (λ o. option_or o (section_holding (five_lists_of v) text)) (own_holding 0 v.own_lists text)

-- sections are the same by the one test where they are by the other
pub same_pointwise : (E : Section → Section → Bool) → ((s t : Section) → E s t ≡ same_section s t) → (xs ys : List Section) → pointwise E xs ys ≡ pointwise same_section xs ys
same_pointwise E same [] [] = refl
same_pointwise E same [] (y ∷ ys) = refl
same_pointwise E same (x ∷ xs) [] = refl
same_pointwise E same (x ∷ xs) (y ∷ ys) = rw (same x y, same_pointwise E same xs ys) refl

-- own sections and the five by their numbers
pub own_apart : (i k : ℕ) → k < 5 → false ≡ (5 + i == k)
own_apart i k small = sym (ne_eqb (5 + i) k (λ e. omega (arith, e, small)))

pub other_apart : (k i : ℕ) → k < 5 → false ≡ (k == 5 + i)
other_apart k i small = sym (ne_eqb k (5 + i) (λ e. omega (arith, e, small)))

pub same_own : (i j : ℕ) → (i == j) ≡ (5 + i == 5 + j)
same_own i j = elim (cases_eq i j) [
  | inl is ↦ rw (eq-eqb i j is, eq-eqb (5 + i) (5 + j) (omega (arith, is))) refl
  | inr isnt ↦ rw (ne_eqb i j isnt, ne_eqb (5 + i) (5 + j) (λ e. isnt (omega (arith, e)))) refl
]
