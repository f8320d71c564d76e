-- Lists of modules: when two are the same, and what a search of a sorted one finds.
use Rattle.std.proofs.Common.{◌≡◌, ℕ, ◌+◌, ◌<◌, ◌≤◌, zero, suc, Bool, true, false, not, ◌&&◌, ◌||◌, List, [], ◌∷◌, map, length, drop, Option, Some, None, Result, Ok, Err, inl, inr, refl, sym, ◌∙◌, ap, arith, Bor, bytes_eq, Equal, max}
use Rattle.std.proofs.lemmas.Bool.{and_parts, cases_lt, not-true}
use Rattle.std.proofs.lemmas.Cmp.{nat_list_cmp_total}
use Rattle.std.proofs.lemmas.List.{drop_all}
use Rattle.std.proofs.lemmas.List.Sorted.{searchable_from_sorted}
use Rattle.std.proofs.lemmas.Map.Text.{is_eq-slice_cmp}
use Rattle.std.specs.Cmp.Lexicographic.{pointwise, slice_cmp}
use Rattle.std.specs.List.{slice_get, slice_index_or}
use Rattle.std.specs.List.Sorted.{IsBinarySearchResult, IsSearchInRange}
use Rattle.std.specs.Option.{option_copied, option_eq}
use Rattle.std.specs.Ordering.{is_eq, is_lt, nat_cmp}
use Rattle.std.specs.Result.{is_ok}
use Rattle.isort_settings.specs.Sections.{holds}
use Rattle.isort_settings.proofs.Indexes.{other-longer}
use Rattle.std.proofs.Math.Nat.{le-max_left, le-max_right}
use native.Mathlib.Numerals.{unary_clauses}

-- two lists are the same from one place on where the modules at it are the same, and those after it
same_from : (xs ys : List (List ℕ)) (i : ℕ) → i < length xs → i < length ys
    → pointwise bytes_eq (drop i xs) (drop i ys) ≡ (option_eq bytes_eq (slice_get xs i) (slice_get ys i) && pointwise bytes_eq (drop (suc i) xs) (drop (suc i) ys))
same_from [] ys i h k = absurd (omega (arith, h))
same_from (x ∷ xs) [] i h k = absurd (omega (arith, k))
same_from (x ∷ xs) (y ∷ ys) zero h k = refl
same_from (x ∷ xs) (y ∷ ys) (suc i) h k = same_from xs ys i (omega (arith, h)) (omega (arith, k))

same_read : (p q : Option (Bor (List ℕ))) → option_eq (λ x y. bytes_eq x.now y.now) p q ≡ option_eq bytes_eq (option_copied p) (option_copied q)
same_read None None = refl
same_read None (Some y) = refl
same_read (Some x) None = refl
same_read (Some x) (Some y) = refl

twice : (b : Bool) → not (not b) ≡ b
twice true = refl
twice false = refl

-- the same, for the modules that were read there, and whether they differ
pub same_after : (xs ys : List (List ℕ)) (i : ℕ) (p q : Option (Bor (List ℕ))) (differ : Bool) → i < length xs → i < length ys
    → option_copied p ≡ slice_get xs i → option_copied q ≡ slice_get ys i → differ ≡ not (option_eq (λ x y. bytes_eq x.now y.now) p q)
    → pointwise bytes_eq (drop i xs) (drop i ys) ≡ (not differ && pointwise bytes_eq (drop (i + 1) xs) (drop (i + 1) ys))
same_after xs ys i p q differ h k at_xs at_ys is =
    let e : option_eq bytes_eq (slice_get xs i) (slice_get ys i) ≡ not differ = rw (is, same_read p q, at_xs, at_ys) (sym (twice _)) in
    simp unary_clauses (same_from xs ys i h k ∙ ap (λ b. b && pointwise bytes_eq (drop (suc i) xs) (drop (suc i) ys)) e)

-- after the end of both nothing differs
pub same_at_end : (xs ys : List (List ℕ)) (i : ℕ) → length xs ≤ i → length ys ≤ i → pointwise bytes_eq (drop i xs) (drop i ys) ≡ true
same_at_end xs ys i h k = rw (drop_all i xs h, drop_all i ys k) refl

-- whether no text is below the one before it
abbrev pub never_falls : List (List ℕ) → Bool
never_falls [] = true
never_falls (x ∷ []) = true
never_falls (x ∷ y ∷ more) = not (is_lt (slice_cmp nat_cmp y x)) && never_falls (y ∷ more)

abbrev BorrowedNames : Type 0
BorrowedNames = List (Bor (List ℕ))

abbrev texts : BorrowedNames → List (List ℕ)
texts names = map (λ n. n.now) names

no_fall : (names : BorrowedNames) → never_falls (texts names) ≡ true → (k : ℕ) (d : Bor (List ℕ)) → suc k < length names
    → is_lt (slice_cmp nat_cmp (slice_index_or names (suc k) d).now (slice_index_or names k d).now) ≡ false
no_fall [] up k d h = absurd (omega (arith, h))
no_fall (x ∷ []) up k d h = absurd (omega (arith, h))
no_fall (x ∷ y ∷ more) up zero d h = not-true _ (and_parts _ _ up).0
no_fall (x ∷ y ∷ more) up (suc k) d h = no_fall (y ∷ more) (and_parts _ _ up).1 k d (omega (arith, h))

or_true : (b : Bool) → (b || true) ≡ true
or_true true = refl
or_true false = refl

holds_one : (names : BorrowedNames) (text : List ℕ) (k : ℕ) → k < length names → ((d : Bor (List ℕ)) → slice_cmp nat_cmp (slice_index_or names k d).now text ≡ Equal)
    → holds (texts names) text ≡ true
holds_one [] text k h equal = absurd (omega (arith, h))
holds_one (x ∷ xs) text zero h equal = rw (sym (is_eq-slice_cmp x.now text), equal x) refl
holds_one (x ∷ xs) text (suc k) h equal = rw (holds_one xs text k (omega (arith, h)) equal) (or_true _)

holds_none : (names : BorrowedNames) (text : List ℕ) → ((k : ℕ) (d : Bor (List ℕ)) → k < length names → is_eq (slice_cmp nat_cmp (slice_index_or names k d).now text) ≡ false)
    → holds (texts names) text ≡ false
holds_none [] text other = refl
holds_none (x ∷ xs) text other = rw (sym (is_eq-slice_cmp x.now text), other 0 x (omega arith)) (holds_none xs text (λ k d h. other (suc k) d (omega (arith, h))))

-- what a binary search answers for a text
pub search_finds : (names : BorrowedNames) (text : List ℕ) (r : Result ℕ ℕ) → never_falls (texts names) ≡ true → IsSearchInRange r (length names)
    → IsBinarySearchResult (λ n. slice_cmp nat_cmp n.now text) names r → is_ok r ≡ holds (texts names) text
search_finds names text (Ok i) up within equal = sym (holds_one names text i within equal)
search_finds names text (Err i) up within place =
    let around = place (searchable_from_sorted nat_list_cmp_total (λ n. n.now) names text (λ k d low high. simp unary_clauses (no_fall names up k d (omega (arith, high))))) in
    sym (holds_none names text (λ k d h. elim (cases_lt k i) [
      | inl below ↦ rw (around.0 k d (omega arith) (omega (arith, below))) refl
      | inr above ↦ rw (around.1 k d (omega (arith, above)) h) refl
    ]))

-- the length of the longest text
abbrev pub longest : List (List ℕ) → ℕ
longest [] = 0
longest (text ∷ texts) = max (length text) (longest texts)

-- a longer text is none of them
pub longer_not_held : (names : List (List ℕ)) (text : List ℕ) → longest names < length text → holds names text ≡ false
longer_not_held [] text longer = refl
longer_not_held (n ∷ names) text longer =
    let here : length n < length text = omega (arith, longer, le-max_left (length n) (longest names)) in
    let there : longest names < length text = omega (arith, longer, le-max_right (length n) (longest names)) in
    rw (other-longer n text here, longer_not_held names text there) refl
