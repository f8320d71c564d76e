-- Keys with their places, as one more is put among them.
use Rattle.std.proofs.Common.{◌≡◌, ℕ, zero, suc, ◌≤◌, ◌==◌, Bool, true, false, cond, ◌||◌, Option, None, Some, List, [], ◌∷◌, ◌++◌, length, is_some, Ordering, Less, Equal, Greater, refl, sym, ap, ◌∙◌, subst, if◌then◌else◌, arith, ne_eqb, eq-eqb}
use Rattle.std.proofs.lemmas.List.Folds.{list_any-append}
use Rattle.std.specs.BTreeMap.{insert_entry, is_at}
use Rattle.std.specs.Cmp.{ties}
use Rattle.std.specs.List.{list_any}
use Rattle.std.specs.Map.{lookup, keys_of}
use Rattle.std.specs.Ordering.{is_eq, match_ordering}
use Rattle.isort_find.specs.Key.{Key, key_eq}
use Rattle.isort_find.specs.KeyText.{key_in}
use Rattle.isort_find.specs.GivenKeys.{Places, key_after, first_keys, in_order, ArePlaced}
use Rattle.isort_find.specs.contracts.key.KeyTextOrd.TheImpl as ordered
use Rattle.isort_find.specs.contracts.key.KeyTextPartialOrd.TheImpl as partly
use Rattle.isort_find.specs.declared.key.KeyText.{KeyText}
use Rattle.isort_find.proofs.Keys.KeyTexts.{text_eq}

-- where `cmp` of two texts of keys says `Equal`
pub text_cmp : (a b : KeyText) → is_eq (ordered.cmp-value.it a b) ≡ key_eq (key_in a) (key_in b)
text_cmp a b = sym (ties partly.Laws.laws-law ordered.Laws.matches_partial_cmp-law a b) ∙ text_eq a b

or_last : (a b : Bool) → a || b ≡ b || (a || false)
or_last true true = refl
or_last true false = refl
or_last false true = refl
or_last false false = refl

or_first : (a b c : Bool) → b || (a || c) ≡ a || (b || c)
or_first true true c = refl
or_first true false c = refl
or_first false b c = refl

neither : (a b : Bool) → a || b ≡ false → (a ≡ false) × (b ≡ false)
neither true b h = absurd cc
neither false b h = (refl, h)

-- a key is there where it is compared with each
pub any_place : (key : Key) (es : Places) → list_any (λ k. key_eq key (key_in k)) (keys_of es) ≡ list_any (λ e. key_eq key (key_in e.0)) es
any_place key [] = refl
any_place key (e ∷ es) = ap (λ t. key_eq key (key_in e.0) || t) (any_place key es)

module _ (cmp : KeyText → KeyText → Ordering) where
  -- the first of some keys isn't equal to one that isn't among them, nor is another
  absent : (e : KeyText × ℕ) (es : Places) (k : KeyText) (o : Ordering) → cmp k e.0 ≡ o → lookup (is_at (cmp k)) (e ∷ es) ≡ None → (is_eq o ≡ false) × (lookup (is_at (cmp k)) es ≡ None)
  absent e es k Less is none = (refl, ap (λ o. cond (is_eq o) (Some e.1) (lookup (is_at (cmp k)) es)) (sym is) ∙ none)
  absent e es k Equal is none = absurd (let found : Some e.1 ≡ None = ap (λ o. cond (is_eq o) (Some e.1) (lookup (is_at (cmp k)) es)) (sym is) ∙ none in cc)
  absent e es k Greater is none = (refl, ap (λ o. cond (is_eq o) (Some e.1) (lookup (is_at (cmp k)) es)) (sym is) ∙ none)

  -- a test passes the new entry, or one that was there
  any-insert : (p : KeyText × ℕ → Bool) (k : KeyText) (n : ℕ) (es : Places) → lookup (is_at (cmp k)) es ≡ None → list_any p (insert_entry cmp es k n) ≡ p (k, n) || list_any p es
  any-insert p k n [] none = refl
  any-insert p k n (e ∷ es) none = by (cmp k e.0) refl (any-insert p k n es)
    where
      by : (o : Ordering) → cmp k e.0 ≡ o → (lookup (is_at (cmp k)) es ≡ None → list_any p (insert_entry cmp es k n) ≡ p (k, n) || list_any p es) → list_any p (match_ordering o ((k, n) ∷ e ∷ es) ((e.0, n) ∷ es) (e ∷ insert_entry cmp es k n)) ≡ p (k, n) || (p e || list_any p es)
      by Less is more = refl
      by Equal is more = absurd (let differs = (absent e es k Equal is none).0 in cc)
      by Greater is more = ap (λ t. p e || t) (more (absent e es k Greater is none).1) ∙ or_first (p (k, n)) (p e) (list_any p es)

  -- one key more
  length-insert : (k : KeyText) (n : ℕ) (es : Places) → lookup (is_at (cmp k)) es ≡ None → length (insert_entry cmp es k n) ≡ suc (length es)
  length-insert k n [] none = refl
  length-insert k n (e ∷ es) none = by (cmp k e.0) refl (length-insert k n es)
    where
      by : (o : Ordering) → cmp k e.0 ≡ o → (lookup (is_at (cmp k)) es ≡ None → length (insert_entry cmp es k n) ≡ suc (length es)) → length (match_ordering o ((k, n) ∷ e ∷ es) ((e.0, n) ∷ es) (e ∷ insert_entry cmp es k n)) ≡ suc (suc (length es))
      by Less is more = refl
      by Equal is more = absurd (let differs = (absent e es k Equal is none).0 in cc)
      by Greater is more = ap suc (more (absent e es k Greater is none).1)

  -- the keys at other places stay there
  key_after-other : (k : KeyText) (n i : ℕ) (es : Places) → lookup (is_at (cmp k)) es ≡ None → (n == i) ≡ false → key_after (insert_entry cmp es k n) i ≡ key_after es i
  key_after-other k n i [] none other = ap (λ (b : Bool). if b then key_in k ∷ [] else []) other
  key_after-other k n i (e ∷ es) none other = by (cmp k e.0) refl (λ h. key_after-other k n i es h other)
    where
      by : (o : Ordering) → cmp k e.0 ≡ o → (lookup (is_at (cmp k)) es ≡ None → key_after (insert_entry cmp es k n) i ≡ key_after es i) → key_after (match_ordering o ((k, n) ∷ e ∷ es) ((e.0, n) ∷ es) (e ∷ insert_entry cmp es k n)) i ≡ key_after (e ∷ es) i
      by Less is more = ap (λ (b : Bool). if b then key_in k ∷ [] else key_after (e ∷ es) i) other
      by Equal is more = absurd (let differs = (absent e es k Equal is none).0 in cc)
      by Greater is more = ap (λ (l : List Key). if e.1 == i then key_in e.0 ∷ [] else l) (more (absent e es k Greater is none).1)

  -- the new key is at its place, which was free
  key_after-new : (k : KeyText) (n : ℕ) (es : Places) → lookup (is_at (cmp k)) es ≡ None → list_any (λ e. e.1 == n) es ≡ false → key_after (insert_entry cmp es k n) n ≡ key_in k ∷ []
  key_after-new k n [] none free = ap (λ (b : Bool). if b then key_in k ∷ [] else []) (eq-eqb n n refl)
  key_after-new k n (e ∷ es) none free = by (cmp k e.0) refl (key_after-new k n es)
    where
      by : (o : Ordering) → cmp k e.0 ≡ o → (lookup (is_at (cmp k)) es ≡ None → list_any (λ e. e.1 == n) es ≡ false → key_after (insert_entry cmp es k n) n ≡ key_in k ∷ []) → key_after (match_ordering o ((k, n) ∷ e ∷ es) ((e.0, n) ∷ es) (e ∷ insert_entry cmp es k n)) n ≡ key_in k ∷ []
      by Less is more = ap (λ (b : Bool). if b then key_in k ∷ [] else key_after (e ∷ es) n) (eq-eqb n n refl)
      by Equal is more = absurd (let differs = (absent e es k Equal is none).0 in cc)
      by Greater is more =
          let parts = neither (e.1 == n) (list_any (λ e. e.1 == n) es) free in
          ap (λ (b : Bool). if b then key_in e.0 ∷ [] else key_after (insert_entry cmp es k n) n) parts.0
          ∙ more (absent e es k Greater is none).1 parts.1

  -- the keys before it stay in their order
  first_keys-insert : (k : KeyText) (n m : ℕ) (es : Places) → lookup (is_at (cmp k)) es ≡ None → m ≤ n → first_keys (insert_entry cmp es k n) m ≡ first_keys es m
  first_keys-insert k n zero es none within = refl
  first_keys-insert k n (suc m) es none within =
      let before = first_keys-insert k n m es none (omega (arith, within)) in
      let here = key_after-other k n m es none (ne_eqb n m (λ e. omega (arith, e, within))) in
      (λ i. before i ++ here i)

  -- the new key is the last
  in_order-insert : (k : KeyText) (es : Places) → lookup (is_at (cmp k)) es ≡ None → ArePlaced es → in_order (insert_entry cmp es k (length es)) ≡ in_order es ++ key_in k ∷ []
  in_order-insert k es none placed =
      let n = length es in
      let before = first_keys-insert k n n es none (omega arith) in
      let here = key_after-new k n es none (placed.below n (omega arith)) in
      ap (first_keys (insert_entry cmp es k n)) (length-insert k n es none) ∙ (λ i. before i ++ here i)

  -- the keys with the new one are placed
  placed-insert : (k : KeyText) (es : Places) → lookup (is_at (cmp k)) es ≡ None → ArePlaced es → ArePlaced (insert_entry cmp es k (length es))
  placed-insert k es none placed = record {
    below = λ n above.
        let larger : suc (length es) ≤ n = subst (λ (m : ℕ). m ≤ n) (length-insert k (length es) es none) above in
        any-insert (λ e. e.1 == n) k (length es) es none
        ∙ (λ i. ne_eqb (length es) n (λ e. omega (arith, e, larger)) i || placed.below n (omega (arith, larger)) i);
    same = λ key.
        any-insert (λ e. key_eq key (key_in e.0)) k (length es) es none
        ∙ ap (λ t. key_eq key (key_in k) || t) (placed.same key)
        ∙ or_last (key_eq key (key_in k)) (list_any (key_eq key) (in_order es))
        ∙ sym (list_any-append (key_eq key) (in_order es) (key_in k ∷ []))
        ∙ ap (list_any (key_eq key)) (sym (in_order-insert k es none placed));
  }

  module _ (agree : (a b : KeyText) → is_eq (cmp a b) ≡ key_eq (key_in a) (key_in b)) where
    -- a look-up finds a key that is there
    pub finds : (k : KeyText) (es : Places) → is_some (lookup (is_at (cmp k)) es) ≡ list_any (λ e. key_eq (key_in k) (key_in e.0)) es
    finds k [] = refl
    finds k (e ∷ es) = by (is_eq (cmp k e.0)) refl (finds k es)
      where
        by : (b : Bool) → is_eq (cmp k e.0) ≡ b → is_some (lookup (is_at (cmp k)) es) ≡ list_any (λ e. key_eq (key_in k) (key_in e.0)) es → is_some (cond b (Some e.1) (lookup (is_at (cmp k)) es)) ≡ key_eq (key_in k) (key_in e.0) || list_any (λ e. key_eq (key_in k) (key_in e.0)) es
        by true is more = ap (λ t. t || list_any (λ e. key_eq (key_in k) (key_in e.0)) es) (sym is ∙ agree k e.0)
        by false is more = more ∙ ap (λ t. t || list_any (λ e. key_eq (key_in k) (key_in e.0)) es) (sym is ∙ agree k e.0)

    not_found : (o : Option ℕ) → is_some o ≡ false → o ≡ None
    not_found None h = refl
    not_found (Some n) h = absurd cc

    -- a new key, put in with the number of those before it
    pub one_more : (k : KeyText) (es after : Places) (n : ℕ) → ArePlaced es → list_any (key_eq (key_in k)) (in_order es) ≡ false → n ≡ length es → after ≡ insert_entry cmp es k n → ArePlaced after × (in_order after ≡ in_order es ++ key_in k ∷ [])
    one_more k es after n placed new count is =
        let none = not_found (lookup (is_at (cmp k)) es) (finds k es ∙ placed.same (key_in k) ∙ new) in
        let put : after ≡ insert_entry cmp es k (length es) = is ∙ ap (insert_entry cmp es k) count in
        (subst ArePlaced (sym put) (placed-insert k es none placed), ap in_order put ∙ in_order-insert k es none placed)
