-- What a mapped and a filtered list hold.
use Rattle.std.proofs.Common.{◌≡◌, Bool, true, false, cond, List, [], ◌∷◌, map, ⊎_elim, refl, subst}
use Rattle.std.specs.Prelude.{filter}
use Rattle.std.specs.List.{Contains}
use Rattle.isort_sort.proofs.Orders.InOrder.{nothing_in, in_cons, head_in, tail_in}

-- a value of a mapped list comes from one of the list, and the other way
pub in_map : {X Y : Type 0} (f : X → Y) (xs : List X) (y : Y) → Contains (map f xs) y → (x : X) × Contains xs x × (f x ≡ y)
in_map f [] y h = absurd (nothing_in y h)
in_map {X} f (x ∷ xs) y h = ⊎_elim (λ (e : f x ≡ y). (x, head_in x xs, e)) (λ t. let r = in_map f xs y t in (r.0, tail_in x xs r.0 r.1, r.2)) (in_cons (f x) (map f xs) y h)

pub map_in : {X Y : Type 0} (f : X → Y) (xs : List X) (x : X) → Contains xs x → Contains (map f xs) (f x)
map_in f [] x h = absurd (nothing_in x h)
map_in {X} {Y} f (z ∷ zs) x h = ⊎_elim (λ (e : z ≡ x). subst (λ (w : X). Contains (f z ∷ map f zs) (f w)) e (head_in (f z) (map f zs))) (λ t. tail_in (f z) (map f zs) (f x) (map_in f zs x t)) (in_cons z zs x h)

-- a filtered list holds the values that pass
pub in_filter : {X : Type 0} (p : X → Bool) (xs : List X) (x : X) → Contains (filter p xs) x → Contains xs x × (p x ≡ true)
in_filter p [] x h = absurd (nothing_in x h)
in_filter {X} p (z ∷ zs) x h =
    by (in_filter p zs x) (p z) refl h
  where
    by : (Contains (filter p zs) x → Contains zs x × (p x ≡ true)) → (b : Bool) → p z ≡ b → Contains (cond b (z ∷ filter p zs) (filter p zs)) x → Contains (z ∷ zs) x × (p x ≡ true)
    by more true e k = ⊎_elim (λ (s : z ≡ x). (subst (Contains (z ∷ zs)) s (head_in z zs), subst (λ (w : X). p w ≡ true) s e)) (λ t. let r = more t in (tail_in z zs x r.0, r.1)) (in_cons z (filter p zs) x k)
    by more false e k = let r = more k in (tail_in z zs x r.0, r.1)

pub filter_in : {X : Type 0} (p : X → Bool) (xs : List X) (x : X) → Contains xs x → p x ≡ true → Contains (filter p xs) x
filter_in p [] x h e = absurd (nothing_in x h)
filter_in {X} p (z ∷ zs) x h e =
    by (λ t. filter_in p zs x t e) (p z) refl
  where
    by : (Contains zs x → Contains (filter p zs) x) → (b : Bool) → p z ≡ b → Contains (cond b (z ∷ filter p zs) (filter p zs)) x
    by more true k = ⊎_elim (λ (s : z ≡ x). subst (Contains (z ∷ filter p zs)) s (head_in z (filter p zs))) (λ t. tail_in z (filter p zs) x (more t)) (in_cons z zs x h)
    by more false k = ⊎_elim (λ (s : z ≡ x). let no : p x ≡ false = subst (λ (w : X). p w ≡ false) s k in absurd (cc)) more (in_cons z zs x h)
