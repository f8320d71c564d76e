-- What the imports of members bring to a statement is what the statement takes from the members.
use Rattle.std.proofs.Common.{◌≡◌, ℕ, Bool, true, false, cond, Option, None, Some, List, [], ◌∷◌, ◌++◌, map, flat_map, codes, refl, sym, ap, ◌∙◌, subst, append_assoc, append-nil, is_some, ◌||◌}
use Rattle.std.specs.Prelude.{filter, unwrap_or, bytes_eq, not}
use Rattle.std.specs.List.{list_any}
use Rattle.std.proofs.lemmas.Bool.{and_parts}
use Rattle.std.proofs.lemmas.Grind.{flat_map-append}
use Rattle.std.proofs.lemmas.List.{map-append}
use Rattle.std.proofs.lemmas.List.Elements.{filter-append}
use Rattle.std.proofs.lemmas.Slice.Eq.{bytes_eq-Decides}
use Rattle.py_imports.specs.Grammar.{Imported, Item}
use Rattle.isort_settings.specs.Values.{Values}
use Rattle.isort_sort.specs.Private.Gathered.{Brought, brings, brought, listed_by, listed_item, Seen, nothing_seen, with_brought, seen_with, seen_after}
use Rattle.isort_sort.specs.Member.{Member, imports_of, name_or_nothing, item_of, belongs, begins_with, owned}
use Rattle.isort_sort.specs.Statement.{Statement, straight, star, names, single, is_star, stands_alone, statement_of, statement_with, same_statement}
use Rattle.isort_sort.proofs.Orders.Equality.{is_same}

-- what belongs to a statement
abbrev pub for : Statement → List Brought → List Brought
for s bs = filter (λ b. same_statement b.statement s) bs

-- what was seen, with what more imports bring, all to one statement
abbrev pub gathered : Seen → List Brought → Seen
gathered g bs = record { items = g.items ++ flat_map (λ b. b.listed) bs; comments = g.comments ++ flat_map (λ b. b.comments) bs; above = g.above ++ flat_map (λ b. b.above) bs }

gathered-none : (g : Seen) → g ≡ gathered g []
gathered-none g = λ i. record { items = sym (append-nil g.items) i; comments = sym (append-nil g.comments) i; above = sym (append-nil g.above) i }

gathered-more : (g : Seen) (b : Brought) (bs : List Brought) → gathered (with_brought g b) bs ≡ gathered g (b ∷ bs)
gathered-more g b bs = λ i. record {
  items = append_assoc g.items b.listed (flat_map (λ b. b.listed) bs) i;
  comments = append_assoc g.comments b.comments (flat_map (λ b. b.comments) bs) i;
  above = append_assoc g.above b.above (flat_map (λ b. b.above) bs) i;
}

-- what is seen of a statement is all that belongs to it
pub seen_is_gathered : (s : Statement) (o : Option Seen) (bs : List Brought) → unwrap_or (seen_after s o bs) nothing_seen ≡ gathered (unwrap_or o nothing_seen) (for s bs)
seen_is_gathered s o [] = gathered-none (unwrap_or o nothing_seen)
seen_is_gathered s o (b ∷ bs) = seen_is_gathered s (seen_with s o b) bs ∙ by (same_statement b.statement s)
  where
    by : (t : Bool) → gathered (unwrap_or (cond t (Some (with_brought (unwrap_or o nothing_seen) b)) o) nothing_seen) (for s bs) ≡ gathered (unwrap_or o nothing_seen) (cond t (b ∷ for s bs) (for s bs))
    by true = gathered-more (unwrap_or o nothing_seen) b (for s bs)
    by false = refl

-- a statement is seen where an import belongs to it
pub is_seen : (s : Statement) (o : Option Seen) (bs : List Brought) → is_some (seen_after s o bs) ≡ is_some o || list_any (λ (t : Statement). same_statement t s) (map (λ b. b.statement) bs)
is_seen s None [] = refl
is_seen s (Some g) [] = refl
is_seen s o (b ∷ bs) = is_seen s (seen_with s o b) bs ∙ by (same_statement b.statement s) o (list_any (λ (t : Statement). same_statement t s) (map (λ b. b.statement) bs))
  where
    by : (t : Bool) (o : Option Seen) (others : Bool) → is_some (cond t (Some (with_brought (unwrap_or o nothing_seen) b)) o) || others ≡ is_some o || (t || others)
    by true None others = refl
    by true (Some g) others = refl
    by false None others = refl
    by false (Some g) others = refl

-- the statements to which the imports bring something are those of the imports
statements_of_brings : (v : Values) (is : List Imported) (comments above : List (List ℕ)) → map (λ b. b.statement) (brings v is comments above) ≡ map (statement_of v) is
statements_of_brings v [] comments above = refl
statements_of_brings v (i ∷ is) comments above = ap (λ l. statement_of v i ∷ l) (statements_of_brings v is [] [])

pub statements_of_brought : (v : Values) (members : List Member) → map (λ b. b.statement) (brought v members) ≡ map (statement_of v) (imports_of members)
statements_of_brought v [] = refl
statements_of_brought v (m ∷ ms) =
    map-append (λ b. b.statement) (brings v m.imports m.comments m.above) (brought v ms)
    ∙ (λ i. statements_of_brings v m.imports m.comments m.above i ++ statements_of_brought v ms i)
    ∙ sym (map-append (statement_of v) m.imports (imports_of ms))

-- the comments of a member go with its first import
module _ (part : Brought → List (List ℕ)) (own : Member → List (List ℕ))
    (none : (t : Statement) (l : List Item) → part (record { statement = t; listed = l; comments = []; above = [] }) ≡ [])
    (all : (t : Statement) (l : List Item) (m : Member) → part (record { statement = t; listed = l; comments = m.comments; above = m.above }) ≡ own m) where
  later_parts : (v : Values) (s : Statement) (is : List Imported) → flat_map part (for s (brings v is [] [])) ≡ []
  later_parts v s [] = refl
  later_parts v s (i ∷ is) = by (belongs v s i) (later_parts v s is)
    where
      by : (b : Bool) → flat_map part (for s (brings v is [] [])) ≡ [] → flat_map part (cond b (record { statement = statement_of v i; listed = listed_item v i; comments = []; above = [] } ∷ for s (brings v is [] [])) (for s (brings v is [] []))) ≡ []
      by true e = (λ j. none (statement_of v i) (listed_item v i) j ++ e j)
      by false e = e

  parts_of_member : (v : Values) (s : Statement) (m : Member) (is : List Imported) → flat_map part (for s (brings v is m.comments m.above)) ≡ cond (begins_with v s is) (own m) []
  parts_of_member v s m [] = refl
  parts_of_member v s m (i ∷ is) = by (belongs v s i) (later_parts v s is)
    where
      by : (b : Bool) → flat_map part (for s (brings v is [] [])) ≡ [] → flat_map part (cond b (record { statement = statement_of v i; listed = listed_item v i; comments = m.comments; above = m.above } ∷ for s (brings v is [] [])) (for s (brings v is [] []))) ≡ cond b (own m) []
      by true e = (λ j. all (statement_of v i) (listed_item v i) m j ++ e j) ∙ append-nil (own m)
      by false e = e

  pub parts_of_members : (v : Values) (s : Statement) (members : List Member) → flat_map part (for s (brought v members)) ≡ flat_map own (owned v members s)
  parts_of_members v s [] = refl
  parts_of_members v s (m ∷ ms) =
      ap (flat_map part) (filter-append (λ b. same_statement b.statement s) (brings v m.imports m.comments m.above) (brought v ms))
      ∙ flat_map-append part (for s (brings v m.imports m.comments m.above)) (for s (brought v ms))
      ∙ (λ i. parts_of_member v s m m.imports i ++ parts_of_members v s ms i)
      ∙ by (begins_with v s m.imports)
    where
      by : (b : Bool) → cond b (own m) [] ++ flat_map own (owned v ms s) ≡ flat_map own (cond b (m ∷ owned v ms s) (owned v ms s))
      by true = refl
      by false = refl

-- the items of names
listed_of_names : (m : List ℕ) (v : Values) (i : Imported) → belongs v (names m) i ≡ true → listed_item v i ≡ item_of i ∷ []
listed_of_names m v i h = ap (λ (s : Statement). listed_by s (item_of i)) (is_same (statement_of v i) (names m) h)

items_of_brings : (m : List ℕ) (v : Values) (is : List Imported) (comments above : List (List ℕ)) → flat_map (λ b. b.listed) (for (names m) (brings v is comments above)) ≡ map item_of (filter (belongs v (names m)) is)
items_of_brings m v [] comments above = refl
items_of_brings m v (i ∷ is) comments above = by (belongs v (names m) i) refl (items_of_brings m v is [] [])
  where
    by : (b : Bool) → belongs v (names m) i ≡ b → flat_map (λ b. b.listed) (for (names m) (brings v is [] [])) ≡ map item_of (filter (belongs v (names m)) is)
        → flat_map (λ b. b.listed) (cond b (record { statement = statement_of v i; listed = listed_item v i; comments = comments; above = above } ∷ for (names m) (brings v is [] [])) (for (names m) (brings v is [] []))) ≡ map item_of (cond b (i ∷ filter (belongs v (names m)) is) (filter (belongs v (names m)) is))
    by true h e = (λ j. listed_of_names m v i h j ++ e j)
    by false h e = e

pub items_of_brought : (m : List ℕ) (v : Values) (members : List Member) → flat_map (λ b. b.listed) (for (names m) (brought v members)) ≡ map item_of (filter (belongs v (names m)) (imports_of members))
items_of_brought m v [] = refl
items_of_brought m v (x ∷ ms) =
    ap (flat_map (λ b. b.listed)) (filter-append (λ b. same_statement b.statement (names m)) (brings v x.imports x.comments x.above) (brought v ms))
    ∙ flat_map-append (λ b. b.listed) (for (names m) (brings v x.imports x.comments x.above)) (for (names m) (brought v ms))
    ∙ (λ i. items_of_brings m v x.imports x.comments x.above i ++ items_of_brought m v ms i)
    ∙ sym (ap (map item_of) (filter-append (belongs v (names m)) x.imports (imports_of ms)) ∙ map-append item_of (filter (belongs v (names m)) x.imports) (filter (belongs v (names m)) (imports_of ms)))

-- a statement that isn't one of names tells its item
abbrev pub TellsItem : Statement → Item → Type 0
TellsItem (straight m a) x = x ≡ record { path = []; alias = a }
TellsItem (star m) x = x ≡ record { path = codes "*"; alias = None }
TellsItem (names m) x = Unit {0}
TellsItem (single m i) x = x ≡ i

no_alias : (alias : Option (List ℕ)) → not (is_some alias) ≡ true → alias ≡ None
no_alias None h = refl
no_alias (Some a) h = absurd (cc)

item_told : (v : Values) (m : List ℕ) (n alias : Option (List ℕ)) → TellsItem (statement_with v m n alias) (record { path = name_or_nothing n; alias = alias })
item_told v m None alias = refl
item_told v m (Some n) alias = by (is_star (record { path = n; alias = alias })) (stands_alone v alias) refl
  where
    by : (starred alone : Bool) → is_star (record { path = n; alias = alias }) ≡ starred → TellsItem (cond starred (star m) (cond alone (single m (record { path = n; alias = alias })) (names m))) (record { path = n; alias = alias })
    by true alone h =
        let parts = and_parts (bytes_eq n (codes "*")) (not (is_some alias)) h in
        let path = (bytes_eq-Decides n (codes "*")).0 parts.0 in
        let none = no_alias alias parts.1 in
        λ i. record { path = path i; alias = none i }
    by false true h = refl
    by false false h = tt

pub tells_item : (v : Values) (s : Statement) (i : Imported) → belongs v s i ≡ true → TellsItem s (item_of i)
tells_item v s i h = subst (λ (t : Statement). TellsItem t (item_of i)) (is_same (statement_of v i) s h) (item_told v i.module_name i.attribute_name i.alias_name)
