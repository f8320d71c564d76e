-- Groups of different statements that were sorted by their order are in order.
use Rattle.std.proofs.Common.{◌≡◌, Bool, true, false, cond, None, List, [], ◌∷◌, map, refl, sym, ap, ◌∙◌, subst, Ordering, Less, Equal}
use Rattle.std.specs.Cmp.{IsTotalOrder}
use Rattle.std.specs.List.{AllByRecursion, Contains, IsDistinct, dedup, dedup_from}
use Rattle.std.specs.List.Sorted.{IsPermutation, IsSorted, IsStrictlySortedBy}
use Rattle.std.specs.Map.{keys_of}
use Rattle.std.specs.Ordering.{eq_by_cmp, nat_cmp, ordering_then}
use Rattle.std.proofs.lemmas.Cmp.{eq_by_cmp_equiv, nat_cmp_total, on_total, then_total}
use Rattle.std.proofs.lemmas.Simd.{map-map}
use Rattle.std.proofs.lemmas.List.Kept.{IsStrictlySortedBy-dedup}
use Rattle.std.proofs.lemmas.List.Sorted.{Contains-permutation, IsPermutation-sym}
use Rattle.std.proofs.lemmas.Map.Keys.{IsDistinct-IsPermutation}
use Rattle.std.proofs.lemmas.Map.Lookups.{exact_unsigned}
use Rattle.isort_settings.specs.Orders.{module_cmp}
use Rattle.isort_settings.specs.Values.{Values}
use Rattle.isort_sort.specs.Private.Gathered.{brought, found, seen_after, AreMade}
use Rattle.isort_sort.specs.Private.GroupOrder.{group_cmp, cmp_in_section}
use Rattle.isort_sort.specs.Private.Group.{Group, group_value, IsGrouped, AreGrouped}
use Rattle.isort_sort.specs.Member.{Member}
use Rattle.isort_sort.specs.Statement.{Statement, group_place, module_of, form_place, own_item, item_cmp, statement_cmp, same_statement}
use Rattle.isort_sort.specs.Private.Values.{statement_value}
use Rattle.isort_sort.specs.declared.group.Group as code
use Rattle.isort_sort.proofs.Orders.Contained.{in_map, map_in}
use Rattle.isort_sort.proofs.Groups.Gathered.{same_either_way}
use Rattle.isort_sort.proofs.Groups.Grouped.{Entries, keys_in, statements_in, same_keys, each_found, made_statements, made_groups}
use Rattle.isort_sort.proofs.Orders.InOrder.{all_in, all_from}
use Rattle.isort_sort.proofs.Orders.Equality.{itself}
use Rattle.isort_sort.proofs.Orders.SortedVectors.{by_value, is_equal}
use Rattle.isort_sort.proofs.Orders.Statements.{AreOrders, item_cmp_total, exact_items, same_parts, equal_then}

-- the order of groups is total
pub group_cmp_total : (v : Values) → AreOrders v → IsTotalOrder (group_cmp v)
group_cmp_total v o =
    then_total (on_total (λ (g : Group). g.rank) nat_cmp_total)
    (then_total (on_total (λ (g : Group). group_place v g.statement) nat_cmp_total)
    (then_total (on_total (λ (g : Group). module_of g.statement) o.modules)
    (then_total (on_total (λ (g : Group). form_place g.statement) nat_cmp_total) (on_total (λ (g : Group). own_item g.statement) (item_cmp_total v o)))))

-- groups that the order doesn't tell apart have one statement
same_group : (v : Values) → AreOrders v → (a b : Group) → group_cmp v a b ≡ Equal → a.statement ≡ b.statement
same_group v o a b h =
    let by_section = equal_then (nat_cmp a.rank b.rank) _ h in
    let by_group = equal_then (nat_cmp (group_place v a.statement) (group_place v b.statement)) _ by_section.1 in
    let by_module = equal_then (module_cmp v (module_of a.statement) (module_of b.statement)) _ by_group.1 in
    let by_form = equal_then (nat_cmp (form_place a.statement) (form_place b.statement)) (item_cmp v (own_item a.statement) (own_item b.statement)) by_module.1 in
    same_parts a.statement b.statement (exact_unsigned (form_place a.statement) (form_place b.statement) by_form.0) (o.exact_modules (module_of a.statement) (module_of b.statement) by_module.0) (exact_items v o (own_item a.statement) (own_item b.statement) by_form.1)

-- lists of different values
all_weaker : {X : Type 0} (P Q : X → Type 0) → ((x : X) → P x → Q x) → (xs : List X) → AllByRecursion P xs → AllByRecursion Q xs
all_weaker P Q f [] h = tt
all_weaker P Q f (x ∷ xs) h = (f x h.0, all_weaker P Q f xs h.1)

distinct_weaker : {X : Type 0} (E F : X → X → Bool) → ((x y : X) → E x y ≡ false → F x y ≡ false) → (xs : List X) → IsDistinct E xs → IsDistinct F xs
unfolding IsDistinct
distinct_weaker E F f [] h = tt
distinct_weaker {X} E F f (x ∷ xs) h = (all_weaker (λ y. E x y ≡ false) (λ y. F x y ≡ false) (λ y e. f x y e) xs h.0, distinct_weaker E F f xs h.1)

all_of_map : {X Y : Type 0} (f : X → Y) (P : Y → Type 0) (xs : List X) → AllByRecursion (λ x. P (f x)) xs → AllByRecursion P (map f xs)
all_of_map f P [] h = tt
all_of_map f P (x ∷ xs) h = (h.0, all_of_map f P xs h.1)

all_in_map : {X Y : Type 0} (f : X → Y) (P : Y → Type 0) (xs : List X) → AllByRecursion P (map f xs) → AllByRecursion (λ x. P (f x)) xs
all_in_map f P [] h = tt
all_in_map f P (x ∷ xs) h = (h.0, all_in_map f P xs h.1)

distinct_of_map : {X Y : Type 0} (f : X → Y) (E : Y → Y → Bool) (xs : List X) → IsDistinct (λ a b. E (f a) (f b)) xs → IsDistinct E (map f xs)
unfolding IsDistinct
distinct_of_map f E [] h = tt
distinct_of_map f E (x ∷ xs) h = (all_of_map f (λ y. E (f x) y ≡ false) xs h.0, distinct_of_map f E xs h.1)

distinct_in_map : {X Y : Type 0} (f : X → Y) (E : Y → Y → Bool) (xs : List X) → IsDistinct E (map f xs) → IsDistinct (λ a b. E (f a) (f b)) xs
unfolding IsDistinct
distinct_in_map f E [] h = tt
distinct_in_map f E (x ∷ xs) h = (all_in_map f (λ y. E (f x) y ≡ false) xs h.0, distinct_in_map f E xs h.1)

-- a list of different values keeps them all
kept_from : {X : Type 0} (E : X → X → Bool) → ((x y : X) → E x y ≡ E y x) → (k : X) (xs : List X) → IsDistinct E (k ∷ xs) → dedup_from E k xs ≡ k ∷ xs
unfolding IsDistinct
kept_from E flips k [] h = refl
kept_from E flips k (x ∷ xs) h = ap (λ b. cond b (dedup_from E k xs) (k ∷ dedup_from E x xs)) (flips x k ∙ h.0.0) ∙ ap (λ l. k ∷ l) (kept_from E flips x xs h.1)

kept : {X : Type 0} (E : X → X → Bool) → ((x y : X) → E x y ≡ E y x) → (xs : List X) → IsDistinct E xs → dedup E xs ≡ xs
kept E flips [] h = refl
kept E flips (x ∷ xs) h = kept_from E flips x xs h

strictly : {X : Type 0} {R : X → X → Ordering} (o : IsTotalOrder R) (xs : List X) → IsSorted R xs → IsDistinct (eq_by_cmp R) xs → IsStrictlySortedBy R xs
strictly {X} {R} o xs sorted distinct = subst (IsStrictlySortedBy R) (kept (eq_by_cmp R) (eq_by_cmp_equiv o).symm xs distinct) (IsStrictlySortedBy-dedup o (λ x y. refl) xs sorted)

-- the order of groups with the ranks of their statements is that of their statements
in_section : (v : Values) (members : List Member) (a b : Group) → IsGrouped v members a → IsGrouped v members b → group_cmp v a b ≡ Less → statement_cmp v a.statement b.statement ≡ Less
in_section v members a b ga gb h =
    (λ i. ordering_then (nat_cmp (sym ga.rank i) (sym gb.rank i)) (cmp_in_section v a.statement b.statement)) ∙ h

below_group : (v : Values) (members : List Member) (x : code.Group) (xs : List code.Group) → IsGrouped v members (group_value x) → AllByRecursion (λ g. IsGrouped v members (group_value g)) xs → AllByRecursion (λ y. group_cmp v (group_value x) (group_value y) ≡ Less) xs → AllByRecursion (λ s. statement_cmp v (statement_value x.statement) s ≡ Less) (map (λ g. g.statement) (map group_value xs))
below_group v members x [] gx gs h = tt
below_group v members x (y ∷ ys) gx gs h = (in_section v members (group_value x) (group_value y) gx gs.0 h.0, below_group v members x ys gx gs.1 h.1)

ascending : (v : Values) (members : List Member) (xs : List code.Group) → AllByRecursion (λ g. IsGrouped v members (group_value g)) xs → IsStrictlySortedBy (by_value group_value (group_cmp v)) xs → IsStrictlySortedBy (statement_cmp v) (map (λ g. g.statement) (map group_value xs))
unfolding IsStrictlySortedBy
ascending v members [] gs h = tt
ascending v members (x ∷ xs) gs h = (below_group v members x xs gs.0 gs.1 h.0, ascending v members xs gs.1 h.1)

true_or_false : (a b : Bool) → a ≡ false → (b ≡ true → a ≡ true) → b ≡ false
true_or_false a true h f = sym (f refl) ∙ h
true_or_false a false h f = refl

-- the groups of all statements, sorted
pub are_grouped : (v : Values) (o : AreOrders v) (members : List Member) (es : Entries) (made sorted : List code.Group)
    → ((s : Statement) → found s es ≡ seen_after s None (brought v members))
    → AreMade v es made → IsDistinct (λ a b. same_statement (statement_value a) (statement_value b)) (keys_of es)
    → IsPermutation made sorted → IsSorted (by_value group_value (group_cmp v)) sorted
    → AreGrouped v members (map group_value sorted)
are_grouped v o members es made sorted gathers are distinct moved ascend =
    let of_made = made_groups v members es es made gathers (λ s. (same_keys v members es gathers s).0) (each_found es distinct) are in
    let each : AllByRecursion (λ g. IsGrouped v members (group_value g)) sorted = all_from (λ g. IsGrouped v members (group_value g)) sorted (λ g h. all_in (λ g. IsGrouped v members (group_value g)) made g of_made (Contains-permutation sorted made g (IsPermutation-sym made sorted moved) h)) in
    let keys : statements_in made ≡ keys_in es = made_statements v es made are in
    let R : code.Group → code.Group → Ordering = by_value group_value (group_cmp v) in
    let total : IsTotalOrder R = on_total group_value (group_cmp_total v o) in
    let E : code.Group → code.Group → Bool = λ a b. same_statement (statement_value a.statement) (statement_value b.statement) in
    let apart : IsDistinct E made = distinct_in_map (λ (g : code.Group). statement_value g.statement) same_statement made (subst (λ (l : List Statement). IsDistinct same_statement l) (map-map statement_value (λ e. e.0) es ∙ sym keys) (distinct_of_map statement_value same_statement (keys_of es) distinct)) in
    let apart_sorted : IsDistinct E sorted = IsDistinct-IsPermutation E (λ a b. same_either_way (statement_value a.statement) (statement_value b.statement)) made sorted moved apart in
    let apart_by_order : IsDistinct (eq_by_cmp R) sorted =
    distinct_weaker E (eq_by_cmp R) (λ a b h. true_or_false (E a b) (eq_by_cmp R a b) h (λ e. subst (λ (s : Statement). same_statement (statement_value a.statement) s ≡ true) (same_group v o (group_value a) (group_value b) (is_equal (R a b) e)) (itself (statement_value a.statement)))) sorted apart_sorted in
    record {
      statements = record {
        exactly = λ s. (
          λ h.
              let x = in_map (λ (g : Group). g.statement) (map group_value sorted) s h in
              let g = in_map group_value sorted x.0 x.1 in
              let here : Contains (statements_in made) (statement_value (g.0).statement) = map_in (λ (g : code.Group). statement_value g.statement) made g.0 (Contains-permutation sorted made g.0 (IsPermutation-sym made sorted moved) g.1) in
              (same_keys v members es gathers s).0 (subst (λ (l : List Statement). Contains l s) keys (subst (λ (t : Statement). Contains (statements_in made) t) (ap (λ (g : Group). g.statement) g.2 ∙ x.2) here)),
          λ h.
              let x = in_map (λ (g : code.Group). statement_value g.statement) made s (subst (λ (l : List Statement). Contains l s) (sym keys) ((same_keys v members es gathers s).1 h)) in
              subst (λ (t : Statement). Contains (map (λ (g : Group). g.statement) (map group_value sorted)) t) x.2 (map_in (λ (g : Group). g.statement) (map group_value sorted) (group_value x.0) (map_in group_value sorted x.0 (Contains-permutation made sorted x.0 moved x.1))),
        );
        ascend = ascending v members sorted each (strictly total sorted ascend apart_by_order);
      };
      each = all_of_map group_value (IsGrouped v members) sorted each;
    }
