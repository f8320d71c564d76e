-- A vector that was sorted by an order of its elements' values, and whose repeats were dropped, has them in order.
use Rattle.std.proofs.Common.{◌≡◌, ◌∙◌, sym, subst, refl, List, [], ◌∷◌, map, Bool, true, Ordering, Less, Equal, Greater}
use Rattle.std.specs.List.{Contains, AllByRecursion}
use Rattle.std.specs.List.Sorted.{IsPermutation, IsSorted, IsStrictlySortedBy}
use Rattle.std.specs.List.Retain.{IsFiltered, DiffersFromLast}
use Rattle.std.specs.Cmp.{IsTotalOrder, IsEquivalence}
use Rattle.std.specs.Ordering.{eq_by_cmp, is_eq}
use Rattle.std.proofs.lemmas.Cmp.{on_total}
use Rattle.std.proofs.lemmas.List.Filters.{dedup_is}
use Rattle.std.proofs.lemmas.List.Kept.{Any-dedup, Contains-from_dedup, IsStrictlySortedBy-dedup}
use Rattle.std.proofs.lemmas.List.Sorted.{Contains-permutation, IsPermutation-sym}
use Rattle.std.proofs.lemmas.Map.Lookups.{CmpEqualImpliesEq}
use Rattle.isort_sort.specs.Order.{AreInOrder}
use Rattle.isort_sort.proofs.Orders.Contained.{in_map, map_in}

-- an order of elements by their values
abbrev pub by_value : {X V : Type 0} → (X → V) → (V → V → Ordering) → X → X → Ordering
by_value f R x y = R (f x) (f y)

below_mapped : {X V : Type 0} (f : X → V) (R : V → V → Ordering) (x : X) (xs : List X) → AllByRecursion (λ y. R (f x) (f y) ≡ Less) xs → AllByRecursion (λ v. R (f x) v ≡ Less) (map f xs)
below_mapped f R x [] h = tt
below_mapped f R x (y ∷ ys) h = (h.0, below_mapped f R x ys h.1)

ascend_mapped : {X V : Type 0} (f : X → V) (R : V → V → Ordering) (xs : List X) → IsStrictlySortedBy (by_value f R) xs → IsStrictlySortedBy R (map f xs)
unfolding IsStrictlySortedBy
ascend_mapped f R [] h = tt
ascend_mapped f R (x ∷ xs) h = (below_mapped f R x xs h.0, ascend_mapped f R xs h.1)

pub is_equal : (o : Ordering) → is_eq o ≡ true → o ≡ Equal
is_equal Less h = absurd (cc)
is_equal Equal h = refl
is_equal Greater h = absurd (cc)

-- sorted, and without repeats
pub in_order_by_value : {X V : Type 0} (f : X → V) {R : V → V → Ordering} (o : IsTotalOrder R) → CmpEqualImpliesEq R → (E : X → X → Bool) → IsEquivalence E → ((x y : X) → E x y ≡ eq_by_cmp (by_value f R) x y) → (xs ys zs : List X) → IsPermutation xs ys → IsSorted (by_value f R) ys → IsFiltered (DiffersFromLast E) [] ys zs → AreInOrder R (map f xs) (map f zs)
in_order_by_value {X} {V} f {R} o exact E equivalence ties xs ys zs p s filtered =
    let is = dedup_is E ys zs filtered in
    record {
      exactly = λ v. (
        λ h.
            let x = in_map f zs v h in
            subst (Contains (map f xs)) x.2 (map_in f xs x.0 (Contains-permutation ys xs x.0 (IsPermutation-sym xs ys p) (Contains-from_dedup E ys x.0 (subst (λ (l : List X). Contains l x.0) is x.1)))),
        λ h.
            let x = in_map f xs v h in
            let a = Any-dedup equivalence ys x.0 (Contains-permutation xs ys x.0 p x.1) in
            let same : f x.0 ≡ f a.1 = exact (f x.0) (f a.1) (is_equal (R (f x.0) (f a.1)) (sym (ties x.0 a.1) ∙ a.4)) in
            subst (Contains (map f zs)) (sym same ∙ x.2) (map_in f zs a.1 (subst (λ (l : List X). Contains l a.1) (sym is) (a.0, a.2, a.3))),
      );
      ascend = ascend_mapped f R zs (subst (IsStrictlySortedBy (by_value f R)) (sym is) (IsStrictlySortedBy-dedup (on_total f o) ties ys s));
    }
