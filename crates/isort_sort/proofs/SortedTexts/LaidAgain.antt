-- A block that was laid out and is seen as members again has the same layout.
use Rattle.std.proofs.Common.{◌≡◌, ℕ, Bool, true, false, cond, ◌&&◌, Option, None, Some, List, [], ◌∷◌, ◌++◌, map, flat_map, codes, ◌↔◌, ⊎_elim, Ordering, Less, refl, sym, ap, ◌∙◌, subst, append-nil}
use Rattle.std.specs.Prelude.{if◌then◌else◌, nat_lt, length, ℤ, pos, negsuc, filter, bytes_eq, replicate}
use Rattle.std.specs.List.{Contains, join_by}
use Rattle.std.specs.List.Sorted.{IsStrictlySortedBy}
use Rattle.std.proofs.lemmas.Bool.{false_from_ne_true}
use Rattle.std.proofs.lemmas.List.Elements.{Contains-append_cases, Contains-append_left, Contains-append_right}
use Rattle.std.proofs.lemmas.Slice.Eq.{bytes_eq-Decides}
use Rattle.py_imports.specs.Grammar.{Imported, Item}
use Rattle.isort_settings.specs.Values.{Values}
use Rattle.isort_sort.specs.Layout.{Laid, IsLaid, EachIsLaid, AreLaid, gap, own_lines, lines_after, block_lines}
use Rattle.isort_sort.specs.Member.{Member, imports_of, item_of, belongs, begins_with, owned, first_texts, AreStatements, AreItemsOf}
use Rattle.isort_sort.specs.Order.{AreInOrder}
use Rattle.isort_sort.specs.Blocks.{Run}
use Rattle.isort_sort.specs.Row.{Before, two, as_many, one, Row}
use Rattle.isort_sort.specs.Sorted.{before_role, number_before, asked, is_indented, blanks_after}
use Rattle.isort_sort.specs.Statement.{Statement, module_of, star, names, single, stands_alone, statement_of, statement_with, statement_cmp, same_statement}
use Rattle.isort_sort.specs.Wrapping.{remark, statement_text, fits_line, IsCut}
use Rattle.isort_sort.specs.LaidAgain.{asked_by, import_of, joined_comments, as_member, with_joined_comments, without_above}
use Rattle.isort_sort.proofs.Orders.Contained.{in_map, map_in, in_filter, filter_in}
use Rattle.isort_sort.proofs.Orders.Equality.{is_same, itself}
use Rattle.isort_sort.proofs.Orders.InOrder.{nothing_in, in_cons, head_in, tail_in, all_in, never_less}
use Rattle.isort_sort.proofs.Orders.Statements.{AreOrders, statement_cmp_total}

-- an import is what its item imports in its statement
import_back : (v : Values) (m : List ℕ) (n a : Option (List ℕ)) → import_of (statement_with v m n a) (item_of (record { module_name = m; attribute_name = n; alias_name = a })) ≡ record { module_name = m; attribute_name = n; alias_name = a }
import_back v m None a = refl
import_back v m (Some n) (Some a) =
    by (bytes_eq n (codes "*")) (stands_alone v (Some a))
  where
    by : (b alone : Bool) → import_of (cond (b && false) (star m) (cond alone (single m (record { path = n; alias = Some a })) (names m))) (record { path = n; alias = Some a }) ≡ record { module_name = m; attribute_name = Some n; alias_name = Some a }
    by true true = refl
    by true false = refl
    by false true = refl
    by false false = refl
import_back v m (Some n) None =
    by (bytes_eq n (codes "*")) (bytes_eq-Decides n (codes "*")).0 (stands_alone v None)
  where
    by : (b : Bool) → (b ≡ true → n ≡ codes "*") → (alone : Bool) → import_of (cond (b && true) (star m) (cond alone (single m (record { path = n; alias = None })) (names m))) (record { path = n; alias = None }) ≡ record { module_name = m; attribute_name = Some n; alias_name = None }
    by true is alone = let e = is refl in λ i. record { module_name = m; attribute_name = Some (sym e i); alias_name = None }
    by false is true = refl
    by false is false = refl

pub import_again : (v : Values) (x : Imported) → import_of (statement_of v x) (item_of x) ≡ x
import_again v x = import_back v x.module_name x.attribute_name x.alias_name

-- what lists hold that are made of lists
pub in_flat_map : {X Y : Type 0} (f : X → List Y) (xs : List X) (y : Y) → Contains (flat_map f xs) y → (x : X) × Contains xs x × Contains (f x) y
in_flat_map f [] y h = absurd (nothing_in y h)
in_flat_map f (x ∷ xs) y h = ⊎_elim (λ t. (x, head_in x xs, t)) (λ t. let r = in_flat_map f xs y t in (r.0, tail_in x xs r.0 r.1, r.2)) (Contains-append_cases (f x) (flat_map f xs) y h)

flat_map_in : {X Y : Type 0} (f : X → List Y) (xs : List X) (x : X) (y : Y) → Contains xs x → Contains (f x) y → Contains (flat_map f xs) y
flat_map_in f [] x y h k = absurd (nothing_in x h)
flat_map_in {X} f (z ∷ zs) x y h k = ⊎_elim (λ (e : z ≡ x). Contains-append_left (f z) (flat_map f zs) y (subst (λ (w : X). Contains (f w) y) (sym e) k)) (λ t. Contains-append_right (f z) (flat_map f zs) y (flat_map_in f zs x y t k)) (in_cons z zs x h)

-- orders of what holds the same
same_values : {X : Type 0} {cmp : X → X → Ordering} (a b ordered : List X) → ((x : X) → Contains a x ↔ Contains b x) → AreInOrder cmp a ordered → AreInOrder cmp b ordered
same_values a b ordered same o = record { exactly = λ x. (λ h. (same x).0 ((o.exactly x).0 h), λ h. (o.exactly x).1 ((same x).1 h)); ascend = o.ascend }

abbrev SameImports : List Imported → List Imported → Type 0
SameImports a b = (x : Imported) → Contains a x ↔ Contains b x

map_same : {X Y : Type 0} (f : X → Y) (a b : List X) → ((x : X) → Contains a x → Contains b x) → (y : Y) → Contains (map f a) y → Contains (map f b) y
map_same {Y = Y} f a b h y k = let r = in_map f a y k in subst (λ (w : Y). Contains (map f b) w) r.2 (map_in f b r.0 (h r.0 r.1))

filter_same : {X : Type 0} (p : X → Bool) (a b : List X) → ((x : X) → Contains a x → Contains b x) → (x : X) → Contains (filter p a) x → Contains (filter p b) x
filter_same p a b h x k = let r = in_filter p a x k in filter_in p b x (h x r.0) r.1

same_statements : (v : Values) (a b : List Member) (ss : List Statement) → SameImports (imports_of a) (imports_of b) → AreStatements v a ss → AreStatements v b ss
same_statements v a b ss same o =
    same_values _ _ ss (λ s. (map_same (statement_of v) (imports_of a) (imports_of b) (λ x. (same x).0) s, map_same (statement_of v) (imports_of b) (imports_of a) (λ x. (same x).1) s)) o

same_items : (v : Values) (a b : List Member) (s : Statement) (is : List Item) → SameImports (imports_of a) (imports_of b) → AreItemsOf v a s is → AreItemsOf v b s is
same_items v a b s is same o =
    same_values _ _ is (λ i. (
      map_same item_of _ _ (filter_same (belongs v s) (imports_of a) (imports_of b) (λ x. (same x).0)) i,
      map_same item_of _ _ (filter_same (belongs v s) (imports_of b) (imports_of a) (λ x. (same x).1)) i,
    )) o

-- what holds of each statement of a block
pub laid_at : (v : Values) (indentation : List ℕ) (members : List Member) (laid : List Laid) (s : Laid) → EachIsLaid v indentation members laid → Contains laid s → IsLaid v indentation members s
laid_at v indentation members [] s each h = absurd (nothing_in s h)
laid_at v indentation members (t ∷ ts) s each h = ⊎_elim (λ (e : t ≡ s). subst (IsLaid v indentation members) e each.0) (λ k. laid_at v indentation members ts s each.1 k) (in_cons t ts s h)

-- the statements of a block with their items and lines, whatever their comments
abbrev pub IsInLines : Values → List ℕ → List Member → Laid → Type 0
IsInLines v indentation members s = AreItemsOf v members s.statement s.items × IsCut (fits_line v indentation (module_of s.statement)) s.items s.cut

pub record AreInLines (v : Values) (indentation : List ℕ) (members : List Member) (laid : List Laid) : Type 0 where
  pub statements : AreStatements v members (map (λ s. s.statement) laid)
  pub each : (s : Laid) → Contains laid s → IsInLines v indentation members s

pub in_lines : (v : Values) (indentation : List ℕ) (members : List Member) (laid : List Laid) → AreLaid v indentation members laid → AreInLines v indentation members laid
in_lines v indentation members laid is = record { statements = is.statements; each = λ s h. let own = laid_at v indentation members laid s is.each h in (own.items, own.cut) }

-- an item of a statement is that of an import, which it imports again
pub item_import : (v : Values) (members : List Member) (s : Statement) (items : List Item) (i : Item) → AreItemsOf v members s items → Contains items i → Contains (imports_of members) (import_of s i) × (statement_of v (import_of s i) ≡ s)
item_import v members s items i o h =
    let y = in_map item_of (filter (belongs v s) (imports_of members)) i ((o.exactly i).0 h) in
    let found = in_filter (belongs v s) (imports_of members) y.0 y.1 in
    let of : statement_of v y.0 ≡ s = is_same (statement_of v y.0) s found.1 in
    let again : y.0 ≡ import_of s i = sym (import_again v y.0) ∙ (λ k. import_of (of k) (y.2 k)) in
    (subst (Contains (imports_of members)) again found.0, subst (λ (x : Imported). statement_of v x ≡ s) again of)

-- the same is imported
imports_again : (v : Values) (indentation : List ℕ) (members : List Member) (laid : List Laid) → AreInLines v indentation members laid → SameImports (imports_of members) (imports_of (map as_member laid))
imports_again v indentation members laid o x = (there, back)
  where
    there : Contains (imports_of members) x → Contains (imports_of (map as_member laid)) x
    there h =
        let s = statement_of v x in
        let l = in_map (λ (t : Laid). t.statement) laid s ((o.statements.exactly s).1 (map_in (statement_of v) (imports_of members) x h)) in
        let item = ((o.each l.0 l.1).0.exactly (item_of x)).1 (map_in item_of (filter (belongs v l.0.statement) (imports_of members)) x (filter_in (belongs v l.0.statement) (imports_of members) x h (subst (λ (t : Statement). same_statement s t ≡ true) (sym l.2) (itself s)))) in
        let made : import_of l.0.statement (item_of x) ≡ x = ap (λ t. import_of t (item_of x)) l.2 ∙ import_again v x in
        flat_map_in (λ (m : Member). m.imports) (map as_member laid) (as_member l.0) x (map_in as_member laid l.0 l.1) (subst (Contains (map (import_of l.0.statement) l.0.items)) made (map_in (import_of l.0.statement) l.0.items (item_of x) item))

    back : Contains (imports_of (map as_member laid)) x → Contains (imports_of members) x
    back h =
        let m = in_flat_map (λ (m : Member). m.imports) (map as_member laid) x h in
        let l = in_map as_member laid m.0 m.1 in
        let i = in_map (import_of l.0.statement) l.0.items x (subst (λ (t : Member). Contains t.imports x) (sym l.2) m.2) in
        subst (Contains (imports_of members)) i.2 (item_import v members l.0.statement l.0.items i.0 (o.each l.0 l.1).0 i.1).0

-- the first import of a member that a statement is written as is that statement's
begins_itself : (v : Values) (members : List Member) (t : Laid) (s : Statement) → AreItemsOf v members t.statement t.items → (some : Item) → Contains t.items some → begins_with v s (as_member t).imports ≡ same_statement t.statement s
begins_itself v members t s o some h = by t.items (λ i k. (item_import v members t.statement t.items i o k).1) h
  where
    by : (items : List Item) → ((i : Item) → Contains items i → statement_of v (import_of t.statement i) ≡ t.statement) → Contains items some → begins_with v s (map (import_of t.statement) items) ≡ same_statement t.statement s
    by [] each k = absurd (nothing_in some k)
    by (i ∷ is) each k = ap (λ w. same_statement w s) (each i (head_in i is))

-- each statement has an item
pub some_item : (v : Values) (indentation : List ℕ) (members : List Member) (laid : List Laid) (t : Laid) → AreInLines v indentation members laid → Contains laid t → (i : Item) × Contains t.items i
some_item v indentation members laid t o h =
    let x = in_map (statement_of v) (imports_of members) t.statement ((o.statements.exactly t.statement).0 (map_in (λ (l : Laid). l.statement) laid t h)) in
    (item_of x.0, ((o.each t h).0.exactly (item_of x.0)).1 (map_in item_of (filter (belongs v t.statement) (imports_of members)) x.0 (filter_in (belongs v t.statement) (imports_of members) x.0 x.1 (subst (λ (w : Statement). same_statement w t.statement ≡ true) (sym x.2) (itself t.statement)))))

-- of statements that strictly ascend, one member begins with each
abbrev BeginWithOne : Values → List Laid → Type 0
BeginWithOne v laid = (t : Laid) → Contains laid t → (s : Statement) → begins_with v s (as_member t).imports ≡ same_statement t.statement s

none_owned : (v : Values) (laid : List Laid) (s : Statement) → BeginWithOne v laid → ((t : Laid) → Contains laid t → same_statement t.statement s ≡ false) → owned v (map as_member laid) s ≡ []
none_owned v [] s alike differ = refl
none_owned v (t ∷ ts) s alike differ =
    ap (λ (b : Bool). cond b (as_member t ∷ owned v (map as_member ts) s) (owned v (map as_member ts) s)) (alike t (head_in t ts) s ∙ differ t (head_in t ts))
    ∙ none_owned v ts s (λ u h. alike u (tail_in t ts u h)) (λ u h. differ u (tail_in t ts u h))

one_owned : (v : Values) → AreOrders v → (laid : List Laid) (s : Laid) → IsStrictlySortedBy (statement_cmp v) (map (λ (l : Laid). l.statement) laid) → BeginWithOne v laid → Contains laid s → owned v (map as_member laid) s.statement ≡ as_member s ∷ []
unfolding IsStrictlySortedBy
one_owned v o [] s ascend alike h = absurd (nothing_in s h)
one_owned v o (t ∷ ts) s ascend alike h =
    let below : (u : Laid) → Contains ts u → statement_cmp v t.statement u.statement ≡ Less = λ u k. all_in (λ w. statement_cmp v t.statement w ≡ Less) (map (λ (l : Laid). l.statement) ts) u.statement ascend.0 (map_in (λ (l : Laid). l.statement) ts u k) in
    let apart : (u w : Statement) → statement_cmp v u w ≡ Less → (u ≡ w → ⊥) = λ u w less same. never_less (statement_cmp_total v o) w (subst (λ (x : Statement). statement_cmp v x w ≡ Less) same less) in
    ⊎_elim
    (λ (e : t ≡ s). subst (λ (x : Laid). owned v (map as_member (t ∷ ts)) x.statement ≡ as_member x ∷ []) e
    (ap (λ (b : Bool). cond b (as_member t ∷ owned v (map as_member ts) t.statement) (owned v (map as_member ts) t.statement)) (alike t (head_in t ts) t.statement ∙ itself t.statement)
    ∙ ap (λ l. as_member t ∷ l) (none_owned v ts t.statement (λ u k. alike u (tail_in t ts u k)) (λ u k. false_from_ne_true _ (λ same. apart t.statement u.statement (below u k) (sym (is_same u.statement t.statement same)))))))
    (λ (k : Contains ts s).
    ap (λ (b : Bool). cond b (as_member t ∷ owned v (map as_member ts) s.statement) (owned v (map as_member ts) s.statement)) (alike t (head_in t ts) s.statement ∙ false_from_ne_true _ (λ same. apart t.statement s.statement (below s k) (is_same t.statement s.statement same)))
    ∙ one_owned v o ts s ascend.1 (λ u l. alike u (tail_in t ts u l)) k) (in_cons t ts s h)

one_said : (cs : List (List ℕ)) → first_texts (joined_comments cs ++ []) ≡ joined_comments cs
one_said [] = refl
one_said (c ∷ cs) = refl

-- the written block is laid out as it was, whatever comments it was written with
pub laid_again : (v : Values) → AreOrders v → (indentation : List ℕ) (members : List Member) (laid : List Laid) → AreInLines v indentation members laid → AreLaid v indentation (map as_member laid) (map with_joined_comments laid)
laid_again v o indentation members laid is = record {
  statements = subst (AreStatements v (map as_member laid)) (same_names laid) (same_statements v members (map as_member laid) (map (λ (l : Laid). l.statement) laid) same is.statements);
  each = each laid (λ s h. h);
}
  where
    same : SameImports (imports_of members) (imports_of (map as_member laid))
    same = imports_again v indentation members laid is

    same_names : (ls : List Laid) → map (λ (l : Laid). l.statement) ls ≡ map (λ (l : Laid). l.statement) (map with_joined_comments ls)
    same_names [] = refl
    same_names (l ∷ ls) = ap (λ ss. l.statement ∷ ss) (same_names ls)

    alike : BeginWithOne v laid
    alike t h s = let i = some_item v indentation members laid t is h in begins_itself v members t s (is.each t h).0 i.0 i.1

    one_again : (s : Laid) → Contains laid s → IsLaid v indentation (map as_member laid) (with_joined_comments s)
    one_again s h =
        let mine = one_owned v o laid s is.statements.ascend alike h in
        record {
          items = same_items v members (map as_member laid) s.statement s.items same (is.each s h).0;
          cut = (is.each s h).1;
          comments = sym (ap (λ (ms : List Member). first_texts (flat_map (λ m. m.comments) ms)) mine ∙ one_said s.comments);
          above = sym (ap (λ (ms : List Member). flat_map (λ m. m.above) ms) mine ∙ append-nil s.above);
        }

    each : (ls : List Laid) → ((s : Laid) → Contains ls s → Contains laid s) → EachIsLaid v indentation (map as_member laid) (map with_joined_comments ls)
    each [] inside = tt
    each (l ∷ ls) inside = (one_again l (inside l (head_in l ls)), each ls (λ s h. inside s (tail_in l ls s h)))

-- a comment that was joined is written as it was
same_remark : (cs : List (List ℕ)) → remark (joined_comments cs) ≡ remark cs
same_remark [] = refl
same_remark (c ∷ cs) = ap (λ (t : List ℕ). codes "  # " ++ t) (append-nil (join_by (λ (t : List ℕ). t) (codes "; ") (c ∷ cs)))

same_own_lines : (v : Values) (indentation end : List ℕ) (s : Laid) → own_lines v indentation end (with_joined_comments s) ≡ own_lines v indentation end s
same_own_lines v indentation end s = ap (λ r. map (λ c. indentation ++ c) s.above ++ statement_text v indentation end s.statement r s.items s.cut ∷ []) (same_remark s.comments)

same_lines_after : (v : Values) (indentation end : List ℕ) (a : Laid) (ss : List Laid) → lines_after v indentation end (with_joined_comments a) (map with_joined_comments ss) ≡ lines_after v indentation end a ss
same_lines_after v indentation end a [] = refl
same_lines_after v indentation end a (b ∷ ss) =
    λ i. replicate (gap v a b) [] ++ (same_own_lines v indentation end b i ++ same_lines_after v indentation end b ss i)

-- the written block has the lines that it had
pub lines_again : (v : Values) (indentation end : List ℕ) (laid : List Laid) → block_lines v indentation end (map with_joined_comments laid) ≡ block_lines v indentation end laid
lines_again v indentation end [] = refl
lines_again v indentation end (s ∷ ss) = λ i. same_own_lines v indentation end s i ++ same_lines_after v indentation end s ss i

-- the blank lines that are written after a block are those that would be written again
same_number : (kept : ℕ) (b : Before) → number_before (number_before kept b) b ≡ number_before kept b
same_number kept two = refl
same_number kept as_many = refl
same_number kept one = refl

same_asked : (after : ℤ) (kept : ℕ) (b : Before) → asked after (number_before (asked after (number_before kept b)) b) ≡ asked after (number_before kept b)
same_asked (pos n) kept b = refl
same_asked (negsuc n) kept b = same_number kept b

same_before : (a b : Before) → Some a ≡ Some b → a ≡ b
same_before a b h = cc

-- so many blank lines, after a block before rows the first of which asks for this
blanks_before : (v : Values) (run new : Run) (n : ℕ) (row : Row) (rows : List Row) (asks : Before) → new.first.indentation ≡ run.first.indentation → before_role row.role ≡ asks → blanks_after v new n (row ∷ rows) ≡ (if is_indented run then n else asked v.lines_after_imports (number_before n asks))
blanks_before v run new n row rows asks same e =
    let indented : is_indented new ≡ is_indented run = ap (λ (t : List ℕ). nat_lt 0 (length t)) same in
    λ i. if indented i then n else asked v.lines_after_imports (number_before n (e i))

pub blanks_again : (v : Values) (run new : Run) (kept : ℕ) (rows others : List Row) → new.first.indentation ≡ run.first.indentation → asked_by others ≡ asked_by rows → blanks_after v new (blanks_after v run kept rows) others ≡ blanks_after v run kept rows
blanks_again v run new kept [] [] same asks = refl
blanks_again v run new kept [] (o ∷ os) same asks = absurd (cc)
blanks_again v run new kept (r ∷ rs) [] same asks = absurd (cc)
blanks_again v run new kept (r ∷ rs) (o ∷ os) same asks =
    blanks_before v run new (blanks_after v run kept (r ∷ rs)) o os _ same (same_before (before_role o.role) (before_role r.role) asks) ∙ by (is_indented run)
  where
    written : Bool → ℕ
    written x = if x then kept else asked v.lines_after_imports (number_before kept (before_role r.role))

    by : (x : Bool) → (if x then written x else asked v.lines_after_imports (number_before (written x) (before_role r.role))) ≡ written x
    by true = refl
    by false = same_asked v.lines_after_imports kept (before_role r.role)

-- before rows that begin with comments as many are written as there were
pub blanks_kept : (v : Values) (run new : Run) (kept : ℕ) (row : Row) (rows others : List Row) → new.first.indentation ≡ run.first.indentation → asked_by others ≡ Some as_many → blanks_after v new (blanks_after v run kept (row ∷ rows)) others ≡ blanks_after v run kept (row ∷ rows)
blanks_kept v run new kept row rows [] same asks = refl
blanks_kept v run new kept row rows (o ∷ os) same asks =
    blanks_before v run new (blanks_after v run kept (row ∷ rows)) o os _ same (same_before (before_role o.role) as_many asks) ∙ by (is_indented run)
  where
    written : Bool → ℕ
    written x = if x then kept else asked v.lines_after_imports (number_before kept (before_role row.role))

    twice : (after : ℤ) (n : ℕ) → asked after (asked after n) ≡ asked after n
    twice (pos m) n = refl
    twice (negsuc m) n = refl

    by : (x : Bool) → (if x then written x else asked v.lines_after_imports (written x)) ≡ written x
    by true = refl
    by false = twice v.lines_after_imports (number_before kept (before_role row.role))

-- the comments above the first statement may be left out
pub first_again : (v : Values) → AreOrders v → (indentation : List ℕ) (members : List Member) (s : Laid) (ss : List Laid) → AreLaid v indentation members (s ∷ ss) → AreLaid v indentation (map as_member (without_above s ∷ ss)) (map with_joined_comments (without_above s ∷ ss))
first_again v o indentation members s ss is = laid_again v o indentation members (without_above s ∷ ss) (record { statements = is.statements; each = each })
  where
    each : (t : Laid) → Contains (without_above s ∷ ss) t → IsInLines v indentation members t
    each t h =
        ⊎_elim (λ (e : without_above s ≡ t). subst (IsInLines v indentation members) e (is.each.0.items, is.each.0.cut))
        (λ k. (in_lines v indentation members (s ∷ ss) is).each t (tail_in s ss t k)) (in_cons (without_above s) ss t h)
