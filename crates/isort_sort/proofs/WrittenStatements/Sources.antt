-- What is known of a statement that is laid out, by the members that it comes from.
use Rattle.std.proofs.Common.{◌≡◌, ℕ, Bool, true, false, cond, not, ◌&&◌, Option, None, Some, List, [], ◌∷◌, flat_map, codes, is_some, ⊎_elim, Less, refl, sym, ap, ◌∙◌, subst}
use Rattle.std.specs.Prelude.{filter, bytes_eq}
use Rattle.std.specs.List.{Contains, AllByRecursion}
use Rattle.std.specs.List.Sorted.{IsStrictlySortedBy}
use Rattle.py_imports.specs.Grammar.{Imported, Item}
use Rattle.py_imports.specs.Names.{IsName, IsAlias, IsModuleName, IsRelativeName, IsNamed, whole, all, part, AreNamed, IsNameItem}
use Rattle.isort_settings.specs.Values.{Values}
use Rattle.isort_sort.specs.LaidAgain.{import_of}
use Rattle.isort_sort.specs.Layout.{Laid, AreLaid}
use Rattle.isort_sort.specs.Member.{Member, imports_of, item_of, belongs, begins_with, owned, first_texts, AreItemsOf, comments_of}
use Rattle.isort_sort.specs.Statement.{Statement, straight, star, names, single, stands_alone, item_cmp, statement_of}
use Rattle.isort_sort.specs.WrittenLine.{IsRemark, AreRemarks, IsReadMember, AreReadMembers}
use Rattle.isort_sort.specs.Wrapping.{IsCut, ArePacked, IsFilled}
use Rattle.isort_sort.proofs.LineLaws.Each.{each-append, each-parts, each-map, each-filter}
use Rattle.isort_sort.proofs.Orders.Contained.{in_map, in_filter}
use Rattle.isort_sort.proofs.Orders.Equality.{is_same}
use Rattle.isort_sort.proofs.Orders.InOrder.{nothing_in, in_cons, head_in, tail_in, never_less}
use Rattle.isort_sort.proofs.Orders.Statements.{AreOrders, item_cmp_total}
use Rattle.isort_sort.proofs.SortedTexts.LaidAgain.{import_again, in_flat_map, laid_at, item_import, in_lines, some_item}
use Rattle.isort_sort.proofs.WrittenStatements.NamesRests.{HasItem, AreNameItems, AreLines}

-- each import of the members has names
named_at : (is : List Imported) (x : Imported) → AreNamed is → Contains is x → IsNamed x
named_at [] x h k = absurd (nothing_in x k)
named_at (i ∷ is) x h k = ⊎_elim (λ (e : i ≡ x). subst IsNamed e h.0) (λ t. named_at is x h.1 t) (in_cons i is x k)

named_in : (members : List Member) (x : Imported) → AreReadMembers members → Contains (imports_of members) x → IsNamed x
named_in members x h k =
    let m = in_flat_map (λ (m : Member). m.imports) members x k in
    named_at m.0.imports x (read_at members m.0 h m.1) m.2
  where
    read_at : (ms : List Member) (m : Member) → AreReadMembers ms → Contains ms m → AreNamed m.imports
    read_at [] m r c = absurd (nothing_in m c)
    read_at (n ∷ ns) m r c = ⊎_elim (λ (e : n ≡ m). subst (λ (o : Member). AreNamed o.imports) e r.0.named) (λ t. read_at ns m r.1 t) (in_cons n ns m c)

-- what holds of all texts of the members holds of those that a statement takes
pub each-first_texts : (P : List ℕ → Type 0) (ts : List (List ℕ)) → AllByRecursion P ts → AllByRecursion P (first_texts ts)
each-first_texts P [] h = tt
each-first_texts P (t ∷ ts) h = (h.0, each-filter P (λ u. not (bytes_eq t u)) (first_texts ts) (each-first_texts P ts h.1))

pub each-owned : (P : List ℕ → Type 0) (f : Member → List (List ℕ)) (v : Values) (s : Statement) (members : List Member) → AllByRecursion (λ m. AllByRecursion P (f m)) members → AllByRecursion P (flat_map f (owned v members s))
each-owned P f v s [] h = tt
each-owned P f v s (m ∷ ms) h = by (begins_with v s m.imports) (each-owned P f v s ms h.1)
  where
    by : (b : Bool) → AllByRecursion P (flat_map f (owned v ms s)) → AllByRecursion P (flat_map f (cond b (m ∷ owned v ms s) (owned v ms s)))
    by true k = each-append P (f m) (flat_map f (owned v ms s)) h.0 k
    by false k = k

pub remarks-of_statement : (v : Values) (s : Statement) (members : List Member) → AreReadMembers members → AreRemarks (comments_of v members s)
remarks-of_statement v s members h =
    each-first_texts IsRemark (flat_map (λ m. m.comments) (owned v members s))
    (each-owned IsRemark (λ m. m.comments) v s members (each-map IsReadMember (λ m. AreRemarks m.comments) (λ m r. r.comments) members h))

-- an item is what its import is
item-back : (v : Values) (members : List Member) (s : Statement) (items : List Item) (i : Item) → AreItemsOf v members s items → Contains items i → i ≡ item_of (import_of s i)
item-back v members s items i o h =
    let y = in_map item_of (filter (belongs v s) (imports_of members)) i ((o.exactly i).0 h) in
    let found = in_filter (belongs v s) (imports_of members) y.0 y.1 in
    let of : statement_of v y.0 ≡ s = is_same (statement_of v y.0) s found.1 in
    let again : y.0 ≡ import_of s i = sym (import_again v y.0) ∙ (λ k. import_of (of k) (y.2 k)) in
    sym y.2 ∙ ap item_of again

-- items that ascend and are all the same are one
only-item : (v : Values) → AreOrders v → (x i : Item) (items : List Item) → IsStrictlySortedBy (item_cmp v) items → Contains items i → ((j : Item) → Contains items j → j ≡ x) → items ≡ x ∷ []
unfolding IsStrictlySortedBy
only-item v o x i [] s h same = absurd (nothing_in i h)
only-item v o x i (a ∷ []) s h same = ap (λ j. j ∷ []) (same a (head_in a []))
only-item v o x i (a ∷ b ∷ is) s h same =
    let first : a ≡ x = same a (head_in a (b ∷ is)) in
    let second : b ≡ x = same b (tail_in a (b ∷ is) b (head_in b is)) in
    let less : item_cmp v a b ≡ Less = s.0.0 in
    absurd (never_less (item_cmp_total v o) x (sym (λ k. item_cmp v (first k) (second k)) ∙ less))

-- names from a module
pub record AreNamesFrom (m : List ℕ) (items : List Item) : Type 0 where
  pub from : IsRelativeName m
  pub named : AreNameItems items

-- what a statement and its items are
abbrev pub IsWritable : Statement → List Item → Type 0
IsWritable (straight m alias) items = IsModuleName m × IsAlias alias × ((i : Item) × (items ≡ i ∷ []))
IsWritable (star m) items = IsRelativeName m × ((i : Item) × (items ≡ i ∷ []))
IsWritable (names m) items = AreNamesFrom m items × HasItem items
IsWritable (single m j) items = AreNamesFrom m items × HasItem items

straight-named : (m : List ℕ) (alias : Option (List ℕ)) (x : Imported) → IsNamed x → x ≡ record { module_name = m; attribute_name = None; alias_name = alias } → IsModuleName m × IsAlias alias
straight-named m alias x (whole path none named) e = (subst IsModuleName (ap (λ (y : Imported). y.module_name) e) path, subst IsAlias (ap (λ (y : Imported). y.alias_name) e) named)
straight-named m alias x (all path attribute none) e = let never : None ≡ Some (codes "*") = sym (ap (λ (y : Imported). y.attribute_name) e) ∙ attribute in absurd (cc)
straight-named m alias x (part a path attribute named alias_is) e = let never : None ≡ Some a = sym (ap (λ (y : Imported). y.attribute_name) e) ∙ attribute in absurd (cc)

star-named : (m n : List ℕ) (alias : Option (List ℕ)) (x : Imported) → IsNamed x → x ≡ record { module_name = m; attribute_name = Some n; alias_name = alias } → IsRelativeName m
star-named m n alias x (whole path none named) e = let never : Some n ≡ None = sym (ap (λ (y : Imported). y.attribute_name) e) ∙ none in absurd (cc)
star-named m n alias x (all path attribute none) e = subst IsRelativeName (ap (λ (y : Imported). y.module_name) e) path
star-named m n alias x (part a path attribute named alias_is) e = subst IsRelativeName (ap (λ (y : Imported). y.module_name) e) path

-- a name that isn't `*`
some-name : (a b : List ℕ) → Some a ≡ Some b → a ≡ b
some-name a b h = cc

part-named : (m : List ℕ) (i : Item) (x : Imported) → IsNamed x → x ≡ record { module_name = m; attribute_name = Some i.path; alias_name = i.alias } → ((i.path ≡ codes "*") → (i.alias ≡ None) → ⊥) → IsNameItem i
part-named m i x (whole path none named) e not_star = let never : Some i.path ≡ None = sym (ap (λ (y : Imported). y.attribute_name) e) ∙ none in absurd (cc)
part-named m i x (all path attribute none) e not_star =
    absurd (not_star (some-name i.path (codes "*") (sym (ap (λ (y : Imported). y.attribute_name) e) ∙ attribute)) (sym (ap (λ (y : Imported). y.alias_name) e) ∙ none))
part-named m i x (part a path attribute named alias_is) e not_star = record {
  path = subst IsName (sym (some-name i.path a (sym (ap (λ (y : Imported). y.attribute_name) e) ∙ attribute))) named;
  alias = subst IsAlias (ap (λ (y : Imported). y.alias_name) e) alias_is;
}

-- `*` is imported by a statement of its own
star-statement : (v : Values) (m : List ℕ) (i : Item) → i.path ≡ codes "*" → i.alias ≡ None → statement_of v (record { module_name = m; attribute_name = Some i.path; alias_name = i.alias }) ≡ star m
star-statement v m i p a =
    (λ k. cond (bytes_eq (p k) (codes "*") && not (is_some (a k))) (star m) (cond (stands_alone v (a k)) (single m (record { path = p k; alias = a k })) (names m)))

each-named : (m : List ℕ) (items : List Item) → ((i : Item) → Contains items i → IsNameItem i) → AreNameItems items
each-named m [] h = tt
each-named m (i ∷ is) h = (h i (head_in i is), each-named m is (λ j k. h j (tail_in i is j k)))

has-item : (items : List Item) (i : Item) → Contains items i → HasItem items
has-item [] i h = nothing_in i h
has-item (j ∷ js) i h = tt

-- what is given of a statement's items
record AreFrom (v : Values) (s : Statement) (items : List Item) : Type 0 where
  some : Item
  some_in : Contains items some
  named : (i : Item) → Contains items i → IsNamed (import_of s i)
  own : (i : Item) → Contains items i → statement_of v (import_of s i) ≡ s
  back : (i : Item) → Contains items i → i ≡ item_of (import_of s i)
  ascend : IsStrictlySortedBy (item_cmp v) items

names-writable : (v : Values) (m : List ℕ) (s : Statement) (items : List Item) → ((i : Item) → import_of s i ≡ record { module_name = m; attribute_name = Some i.path; alias_name = i.alias }) → (star m ≡ s → ⊥) → AreFrom v s items → AreNamesFrom m items × HasItem items
names-writable v m s items import_is apart f = (
  record {
    from = star-named m f.some.path f.some.alias (import_of s f.some) (f.named f.some f.some_in) (import_is f.some);
    named = each-named m items (λ i h. part-named m i (import_of s i) (f.named i h) (import_is i) (λ p a. apart (sym (star-statement v m i p a) ∙ ap (statement_of v) (sym (import_is i)) ∙ f.own i h)));
  },
  has-item items f.some f.some_in,
)

writable : (v : Values) → AreOrders v → (s : Statement) (items : List Item) → AreFrom v s items → IsWritable s items
writable v o (straight m alias) items f =
    let named = straight-named m alias (import_of (straight m alias) f.some) (f.named f.some f.some_in) refl in
    (named.0, named.1, (_, only-item v o (record { path = []; alias = alias }) f.some items f.ascend f.some_in (λ j h. f.back j h)))
writable v o (star m) items f =
    (star-named m (codes "*") None (import_of (star m) f.some) (f.named f.some f.some_in) refl, (_, only-item v o (record { path = codes "*"; alias = None }) f.some items f.ascend f.some_in (λ j h. f.back j h)))
writable v o (names m) items f = names-writable v m (names m) items (λ i. refl) (λ e. absurd (cc)) f
writable v o (single m j) items f = names-writable v m (single m j) items (λ i. refl) (λ e. absurd (cc)) f

pub laid-writable : (v : Values) → AreOrders v → (indentation : List ℕ) (members : List Member) (laid : List Laid) (s : Laid) → AreReadMembers members → AreLaid v indentation members laid → Contains laid s → IsWritable s.statement s.items
laid-writable v o indentation members laid s read is h =
    let own = laid_at v indentation members laid s is.each h in
    let i = some_item v indentation members laid s (in_lines v indentation members laid is) h in
    writable v o s.statement s.items
    (record {
      some = i.0;
      some_in = i.1;
      named = λ j k. named_in members (import_of s.statement j) read (item_import v members s.statement s.items j own.items k).0;
      own = λ j k. (item_import v members s.statement s.items j own.items k).1;
      back = λ j k. item-back v members s.statement s.items j own.items k;
      ascend = own.items.ascend;
    })

-- the lines of a cut
filled : (fits : List Item → Bool) (line : List Item) → IsFilled fits line → HasItem line
filled fits [] h = h
filled fits (i ∷ is) h = tt

lines-of : (fits : List Item → Bool) (lines : List (List Item)) → ArePacked fits lines → AreNameItems (flat_map (λ l. l) lines) → AreLines lines
lines-of fits [] h k = tt
lines-of fits (l ∷ ls) h k = let both = each-parts IsNameItem l (flat_map (λ x. x) ls) k in (filled fits l h.0, both.0, lines-of fits ls h.2 both.1)

pub cut-lines : (fits : List Item → Bool) (items : List Item) (lines : List (List Item)) → IsCut fits items lines → AreNameItems items → AreLines lines
cut-lines fits items lines c h = lines-of fits lines c.packed (subst AreNameItems (sym c.all) h)
