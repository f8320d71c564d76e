-- Groups that were made of what was seen of each statement, and then sorted, are the statements of the members with what
-- each takes from them.
use Rattle.std.proofs.Common.{◌≡◌, Bool, true, false, cond, ◌||◌, Option, None, Some, List, [], ◌∷◌, map, flat_map, refl, sym, ap, ◌∙◌, subst, ⊎_elim, is_some, string_bytes, Ordering, ◌↔◌}
use Rattle.std.specs.Prelude.{filter, unwrap_or}
use Rattle.std.specs.List.{AllByRecursion, Contains, IsDistinct, list_any}
use Rattle.std.specs.List.Sorted.{IsStrictlySortedBy}
use Rattle.std.specs.Map.{keys_of}
use Rattle.py_imports.specs.Grammar.{Imported, Item}
use Rattle.isort_settings.specs.Values.{Values}
use Rattle.isort_sort.specs.Private.Gathered.{brought, Seen, nothing_seen, seen_after, seen_value, found, IsMade, AreMade}
use Rattle.isort_sort.specs.Private.Group.{group_value, items_with, IsGrouped}
use Rattle.isort_sort.specs.Member.{Member, imports_of, item_of, belongs, first_texts, AreItemsOf}
use Rattle.isort_sort.specs.Order.{AreInOrder}
use Rattle.isort_sort.specs.Statement.{Statement, straight, star, names, single, item_cmp, statement_of, same_statement}
use Rattle.isort_sort.specs.Private.Values.{item_value, statement_value}
use Rattle.isort_sort.specs.declared.group.Gathered as code_gathered
use Rattle.isort_sort.specs.declared.group.Group as code
use Rattle.isort_sort.specs.declared.statement.Statement as code_statement
use Rattle.isort_sort.proofs.Groups.Brought.{for, gathered, seen_is_gathered, is_seen, statements_of_brought, parts_of_members, items_of_brought, tells_item}
use Rattle.isort_sort.proofs.Orders.Contained.{in_map, map_in, in_filter, filter_in}
use Rattle.isort_sort.proofs.Orders.InOrder.{nothing_in, alone_in, in_cons, head_in, tail_in}
use Rattle.isort_sort.proofs.Orders.Equality.{is_same, itself}
use Rattle.std.proofs.lemmas.Bool.{or_right}

abbrev pub Entries : Type 0
Entries = List (code_statement.Statement × code_gathered.Gathered)

-- the statements of a map
abbrev pub keys_in : Entries → List Statement
keys_in es = map (λ e. statement_value e.0) es

-- the statements of groups
abbrev pub statements_in : List code.Group → List Statement
statements_in gs = map (λ g. statement_value g.statement) gs

-- a test for a statement
any_in : (s : Statement) (xs : List Statement) → list_any (λ (t : Statement). same_statement t s) xs ≡ true → Contains xs s
any_in s [] h = absurd (cc)
any_in s (x ∷ xs) h = by (λ k. any_in s xs k) (same_statement x s) refl h
  where
    by : (list_any (λ (t : Statement). same_statement t s) xs ≡ true → Contains xs s) → (b : Bool) → same_statement x s ≡ b → b || list_any (λ (t : Statement). same_statement t s) xs ≡ true → Contains (x ∷ xs) s
    by more true e k = subst (λ (t : Statement). Contains (x ∷ xs) t) (is_same x s e) (head_in x xs)
    by more false e k = tail_in x xs s (more k)

in_any : (s : Statement) (xs : List Statement) → Contains xs s → list_any (λ (t : Statement). same_statement t s) xs ≡ true
in_any s [] h = absurd (nothing_in s h)
in_any s (x ∷ xs) h =
    ⊎_elim
    (λ (e : x ≡ s). ap (λ b. b || list_any (λ (t : Statement). same_statement t s) xs) (subst (λ (t : Statement). same_statement x t ≡ true) e (itself x)))
    (λ (t : Contains xs s). or_right (same_statement x s) (list_any (λ (t : Statement). same_statement t s) xs) (in_any s xs t))
    (in_cons x xs s h)

found_any : (s : Statement) (es : Entries) → is_some (found s es) ≡ list_any (λ (t : Statement). same_statement t s) (keys_in es)
found_any s [] = refl
found_any s (e ∷ es) = by (same_statement (statement_value e.0) s) (found_any s es)
  where
    by : (b : Bool) → is_some (found s es) ≡ list_any (λ (t : Statement). same_statement t s) (keys_in es) → is_some (cond b (Some (seen_value e.1)) (found s es)) ≡ b || list_any (λ (t : Statement). same_statement t s) (keys_in es)
    by true h = refl
    by false h = h

-- the map of all that the members bring has their statements
module _ (v : Values) (members : List Member) (es : Entries) (gathers : (s : Statement) → found s es ≡ seen_after s None (brought v members)) where
  any_import : (s : Statement) → list_any (λ (t : Statement). same_statement t s) (keys_in es) ≡ list_any (λ (t : Statement). same_statement t s) (map (statement_of v) (imports_of members))
  any_import s = sym (found_any s es) ∙ ap is_some (gathers s) ∙ is_seen s None (brought v members) ∙ ap (list_any (λ (t : Statement). same_statement t s)) (statements_of_brought v members)

  pub same_keys : (s : Statement) → Contains (keys_in es) s ↔ Contains (map (statement_of v) (imports_of members)) s
  same_keys s = (λ h. any_in s _ (sym (any_import s) ∙ in_any s _ h), λ h. any_in s _ (any_import s ∙ in_any s _ h))

-- an entry is what its statement finds
found_later : (k : code_statement.Statement) (g : code_gathered.Gathered) (es others : Entries) → AllByRecursion (λ y. same_statement (statement_value k) (statement_value y) ≡ false) (keys_of others) → AllByRecursion (λ e. found (statement_value e.0) es ≡ Some (seen_value e.1)) others → AllByRecursion (λ e. found (statement_value e.0) ((k, g) ∷ es) ≡ Some (seen_value e.1)) others
found_later k g es [] apart all = tt
found_later k g es (e ∷ others) apart all = (ap (λ b. cond b (Some (seen_value g)) (found (statement_value e.0) es)) apart.0 ∙ all.0, found_later k g es others apart.1 all.1)

pub each_found : (es : Entries) → IsDistinct (λ a b. same_statement (statement_value a) (statement_value b)) (keys_of es) → AllByRecursion (λ e. found (statement_value e.0) es ≡ Some (seen_value e.1)) es
unfolding IsDistinct
each_found [] h = tt
each_found (e ∷ es) h = (ap (λ b. cond b (Some (seen_value e.1)) (found (statement_value e.0) es)) (itself (statement_value e.0)), found_later e.0 e.1 es es h.0 (each_found es h.1))

-- one value, more than once, is one value
one_value : {X : Type 0} (cmp : X → X → Ordering) (xs : List X) (x : X) → Contains xs x → ((y : X) → Contains xs y → y ≡ x) → AreInOrder cmp xs (x ∷ [])
unfolding IsStrictlySortedBy
one_value {X} cmp xs x there each = record {
  exactly = λ y. (λ h. subst (λ (z : X). Contains xs z) (alone_in x y h) there, λ h. subst (λ (z : X). Contains (x ∷ []) z) (sym (each y h)) (head_in x []));
  ascend = (tt, tt);
}

told_items : (v : Values) (members : List Member) (s : Statement) (x : Item) → Contains (map (statement_of v) (imports_of members)) s → ((i : Imported) → belongs v s i ≡ true → item_of i ≡ x) → AreItemsOf v members s (x ∷ [])
told_items v members s x there told =
    let some = in_map (statement_of v) (imports_of members) s there in
    let its : belongs v s some.0 ≡ true = subst (λ (t : Statement). same_statement t s ≡ true) (sym some.2) (itself s) in
    let mine = filter (belongs v s) (imports_of members) in
    one_value (item_cmp v) (map item_of mine) x
    (subst (λ (y : Item). Contains (map item_of mine) y) (told some.0 its) (map_in item_of mine some.0 (filter_in (belongs v s) (imports_of members) some.0 some.1 its)))
    (λ y h. let i = in_map item_of mine y h in sym i.2 ∙ told i.0 (in_filter (belongs v s) (imports_of members) i.0 i.1).1)

-- the items of a statement
made_items : (v : Values) (members : List Member) (s : Statement) (ordered : List Item) → Contains (map (statement_of v) (imports_of members)) s → AreInOrder (item_cmp v) (flat_map (λ b. b.listed) (for s (brought v members))) ordered → AreItemsOf v members s (items_with s ordered)
made_items v members (straight m a) ordered there o = told_items v members (straight m a) _ there (λ i h. tells_item v (straight m a) i h)
made_items v members (star m) ordered there o = told_items v members (star m) _ there (λ i h. tells_item v (star m) i h)
made_items v members (names m) ordered there o = subst (λ (xs : List Item). AreInOrder (item_cmp v) xs ordered) (items_of_brought m v members) o
made_items v members (single m j) ordered there o = told_items v members (single m j) _ there (λ i h. tells_item v (single m j) i h)

some_is : {X : Type 0} (o : Option X) (x d : X) → o ≡ Some x → x ≡ unwrap_or o d
some_is {X} o x d h = sym (ap (λ (p : Option X). unwrap_or p d) h)

made_group : (v : Values) (members : List Member) (k : code_statement.Statement) (g : code_gathered.Gathered) (group : code.Group) → Contains (map (statement_of v) (imports_of members)) (statement_value k) → Some (seen_value g) ≡ seen_after (statement_value k) None (brought v members) → IsMade v k g group → IsGrouped v members (group_value group)
made_group v members k g group there seen made =
    let s = statement_value k in
    let bs = brought v members in
    let all : seen_value g ≡ gathered nothing_seen (for s bs) = some_is (seen_after s None bs) (seen_value g) nothing_seen (sym seen) ∙ seen_is_gathered s None bs in
    subst (λ (t : Statement). IsGrouped v members (record { section = group.section; rank = group.rank; statement = t; items = items_with t (map item_value group.items.items); comments = map string_bytes group.comments.items; above = map string_bytes group.above.items })) (sym made.statement)
    (record {
      section = made.section;
      rank = made.rank;
      items = made_items v members s (map item_value group.items.items) there (subst (λ (xs : List Item). AreInOrder (item_cmp v) xs (map item_value group.items.items)) (ap (λ (x : Seen). x.items) all) made.items);
      comments = made.comments ∙ ap first_texts (ap (λ (x : Seen). x.comments) all ∙ parts_of_members (λ b. b.comments) (λ m. m.comments) (λ t l. refl) (λ t l m. refl) v s members);
      above = made.above ∙ ap (λ (x : Seen). x.above) all ∙ parts_of_members (λ b. b.above) (λ m. m.above) (λ t l. refl) (λ t l m. refl) v s members;
    })

-- the statements of groups are those that they are made of
pub made_statements : (v : Values) (es : Entries) (gs : List code.Group) → AreMade v es gs → statements_in gs ≡ keys_in es
made_statements v [] gs h = ap statements_in h
made_statements v (e ∷ es) gs h = ap statements_in h.2 ∙ (λ i. h.3.statement i ∷ made_statements v es h.1 h.4 i)

pub made_groups : (v : Values) (members : List Member) (all es : Entries) (gs : List code.Group) → ((s : Statement) → found s all ≡ seen_after s None (brought v members)) → ((s : Statement) → Contains (keys_in es) s → Contains (map (statement_of v) (imports_of members)) s) → AllByRecursion (λ e. found (statement_value e.0) all ≡ Some (seen_value e.1)) es → AreMade v es gs → AllByRecursion (λ g. IsGrouped v members (group_value g)) gs
made_groups v members all [] gs gathers there each h = subst (λ (l : List code.Group). AllByRecursion (λ g. IsGrouped v members (group_value g)) l) (sym h) tt
made_groups v members all (e ∷ es) gs gathers there each h =
    subst (λ (l : List code.Group). AllByRecursion (λ g. IsGrouped v members (group_value g)) l) (sym h.2) (
      made_group v members e.0 e.1 h.0 (there (statement_value e.0) (head_in (statement_value e.0) (keys_in es))) (sym each.0 ∙ gathers (statement_value e.0)) h.3,
      made_groups v members all es h.1 gathers (λ s k. there s (tail_in (statement_value e.0) (keys_in es) s k)) each.1 h.4,
    )
