-- Of refused keys the one whose name comes first.
use Rattle.std.proofs.Common.{◌≡◌, ℕ, Bool, true, false, if◌then◌else◌, List, [], ◌∷◌, ◌++◌, Option, Some, None, IfSome, Ordering, Less, Equal, Greater, refl, sym, ◌∙◌, ap, subst, inl, inr}
use Rattle.std.proofs.lemmas.Bool.{cases_Bool}
use Rattle.std.proofs.lemmas.Cmp.{nat_list_cmp_total}
use Rattle.std.specs.Cmp.Lexicographic.{slice_cmp}
use Rattle.std.specs.List.{AllByRecursion}
use Rattle.std.specs.Option.{option_map_or}
use Rattle.std.specs.Ordering.{nat_cmp, is_lt, ordering_reverse}
use Rattle.isort_settings.specs.Keys.{name_of}
use Rattle.isort_settings.specs.TableSections.{Refused, earlier, first_refused}
use Rattle.isort_settings.specs.TableSections.Steps.{earliest}

-- the name of the one comes before that of the other
abbrev pub before : List ℕ → List ℕ → Bool
before a b = is_lt (slice_cmp nat_cmp a b)

abbrev pub name_at : Refused → List ℕ
name_at r = name_of r.what

abbrev cmp : List ℕ → List ℕ → Ordering
cmp a b = slice_cmp nat_cmp a b

less : (o : Ordering) → is_lt o ≡ true → o ≡ Less
less Less h = refl
less Equal h = cc
less Greater h = cc

-- the one comes after the other, or is the same
not_less : (o : Ordering) → is_lt o ≡ false → (o ≡ Less → ⊥)
not_less Less h e = cc
not_less Equal h e = cc
not_less Greater h e = cc

is_false : (o : Ordering) → (o ≡ Less → ⊥) → is_lt o ≡ false
is_false Less h = absurd (h refl)
is_false Equal h = refl
is_false Greater h = refl

turned : (a b : List ℕ) → cmp a b ≡ Less → cmp b a ≡ Greater
turned a b h = nat_list_cmp_total.antisymm b a ∙ ap ordering_reverse h

pub before-not_after : (a b : List ℕ) → before a b ≡ true → before b a ≡ false
before-not_after a b h = ap is_lt (turned a b (less _ h))

pub before-trans : (a b c : List ℕ) → before a b ≡ true → before b c ≡ true → before a c ≡ true
before-trans a b c h k = ap is_lt (nat_list_cmp_total.trans a b c (less _ h) (less _ k))

pub before-self : (a : List ℕ) → before a a ≡ false
before-self a = is_false _ (λ h. equal h (turned a a h))
  where
    equal : cmp a a ≡ Less → cmp a a ≡ Greater → ⊥
    equal e f = cc

-- where neither comes before the next, the first doesn't come before the last
pub not_before-trans : (a b c : List ℕ) → before a b ≡ false → before b c ≡ false → before a c ≡ false
not_before-trans a b c h k = elim (cases_Bool (before a c)) [
  | inr other ↦ other
  | inl less_ac ↦ contradiction (cmp a b) refl
]
  where
    contradiction : (o : Ordering) → cmp a b ≡ o → before a c ≡ false
    contradiction Less e = absurd (not_less _ h e)
    contradiction Equal e = ap is_lt (nat_list_cmp_total.congr a b c e) ∙ k
    contradiction Greater e = elim (cases_Bool (before a c)) [
      | inr other ↦ other
      | inl less_ac ↦ absurd (not_less _ k (nat_list_cmp_total.trans b a c (nat_list_cmp_total.antisymm b a ∙ ap ordering_reverse e) (less _ less_ac)))
    ]

choose : (b : Bool) (r s : Refused) (P : Refused → Type 0) → P r → P s → P (if b then s else r)
choose true r s P p q = q
choose false r s P p q = p

-- what holds of each holds of the first
first_refused-all : (P : Refused → Type 0) (rs : List Refused) → AllByRecursion P rs → IfSome (first_refused rs) P
first_refused-all P [] h = tt
first_refused-all P (r ∷ rs) h = more (first_refused rs) (first_refused-all P rs h.1)
  where
    more : (o : Option Refused) → IfSome o P → P (option_map_or (earlier r) o r)
    more None k = h.0
    more (Some s) k = choose (before (name_at s) (name_at r)) r s P h.0 k

-- none comes before the head
pub first_refused-head : (x : Refused) (rs : List Refused) → AllByRecursion (λ y. before (name_at y) (name_at x) ≡ false) rs → first_refused (x ∷ rs) ≡ Some x
first_refused-head x rs h = ap Some (more (first_refused rs) (first_refused-all (λ y. before (name_at y) (name_at x) ≡ false) rs h))
  where
    more : (o : Option Refused) → IfSome o (λ y. before (name_at y) (name_at x) ≡ false) → option_map_or (earlier x) o x ≡ x
    more None k = refl
    more (Some s) k = rw k refl

-- those before the others come all after the first of the others
pub first_refused-after : (xs ys : List Refused) (b : Refused) → first_refused ys ≡ Some b → AllByRecursion (λ x. before (name_at b) (name_at x) ≡ true) xs → first_refused (xs ++ ys) ≡ Some b
first_refused-after [] ys b first h = first
first_refused-after (x ∷ xs) ys b first h = ap (λ o. Some (option_map_or (earlier x) o x)) (first_refused-after xs ys b first h.1) ∙ rw h.0 refl

pub first_refused-none : (rs : List Refused) → first_refused rs ≡ None → rs ≡ []
first_refused-none [] h = refl
first_refused-none (r ∷ rs) h = cc

-- what follows of each
pub all_more : (P Q : Refused → Type 0) (rs : List Refused) → ((r : Refused) → P r → Q r) → AllByRecursion P rs → AllByRecursion Q rs
all_more P Q [] f h = tt
all_more P Q (r ∷ rs) f h = (f r h.0, all_more P Q rs f h.1)

-- none comes before the first
pub first_refused-least : (rs : List Refused) → IfSome (first_refused rs) (λ b. AllByRecursion (λ y. before (name_at y) (name_at b) ≡ false) rs)
first_refused-least [] = tt
first_refused-least (r ∷ rs) = more (first_refused rs) (first_refused-least rs) (λ none. first_refused-none rs none)
  where
    picked : (s : Refused) (b : Bool) → before (name_at s) (name_at r) ≡ b → AllByRecursion (λ y. before (name_at y) (name_at s) ≡ false) rs
        → AllByRecursion (λ y. before (name_at y) (name_at (if b then s else r)) ≡ false) (r ∷ rs)
    picked s true e h = (before-not_after (name_at s) (name_at r) e, h)
    picked s false e h = (before-self (name_at r), all_more (λ y. before (name_at y) (name_at s) ≡ false) (λ y. before (name_at y) (name_at r) ≡ false) rs (λ y k. not_before-trans (name_at y) (name_at s) (name_at r) k e) h)

    more : (o : Option Refused) → IfSome o (λ b. AllByRecursion (λ y. before (name_at y) (name_at b) ≡ false) rs) → (o ≡ None → rs ≡ [])
        → AllByRecursion (λ y. before (name_at y) (name_at (option_map_or (earlier r) o r)) ≡ false) (r ∷ rs)
    more None h none = (before-self (name_at r), subst (AllByRecursion (λ y. before (name_at y) (name_at r) ≡ false)) (sym (none refl)) tt)
    more (Some s) h none = picked s (before (name_at s) (name_at r)) refl h

-- of three the first is the same whichever two are compared first
earlier-assoc : (r s t : Refused) → earlier r (earlier s t) ≡ earlier (earlier r s) t
earlier-assoc r s t = assoc (before (name_at t) (name_at s)) (before (name_at s) (name_at r)) refl refl
  where
    assoc : (a b : Bool) → before (name_at t) (name_at s) ≡ a → before (name_at s) (name_at r) ≡ b → earlier r (if a then t else s) ≡ earlier (if b then s else r) t
    assoc true true p q = rw (p, before-trans (name_at t) (name_at s) (name_at r) p q) refl
    assoc true false p q = refl
    assoc false true p q = rw (p, q) refl
    assoc false false p q = rw (q, not_before-trans (name_at t) (name_at s) (name_at r) p q) refl

-- the first of all is the first of some and of the others
pub first_refused-append : (rs ss : List Refused) → first_refused (rs ++ ss) ≡ earliest (first_refused rs) (first_refused ss)
first_refused-append [] ss = none_first (first_refused ss)
  where
    none_first : (o : Option Refused) → o ≡ earliest None o
    none_first None = refl
    none_first (Some s) = refl
first_refused-append (r ∷ rs) ss = ap (λ o. Some (option_map_or (earlier r) o r)) (first_refused-append rs ss) ∙ more (first_refused rs) (first_refused ss)
  where
    more : (o p : Option Refused) → Some (option_map_or (earlier r) (earliest o p) r) ≡ earliest (Some (option_map_or (earlier r) o r)) p
    more o None = refl
    more None (Some s) = refl
    more (Some q) (Some s) = ap Some (earlier-assoc r q s)
