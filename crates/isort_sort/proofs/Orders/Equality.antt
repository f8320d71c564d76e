-- Statements and items that the code finds equal are the same to contracts.
use Rattle.std.proofs.Common.{◌≡◌, ◌==◌, ℕ, sym, ap, refl, ◌∙◌, Bool, true, false, ◌&&◌, Option, None, Some, List}
use Rattle.std.specs.Prelude.{string_bytes, bytes_eq}
use Rattle.std.specs.String.{string_eq}
use Rattle.std.specs.declared.string.String.{String}
use Rattle.std.specs.Option.{option_eq, option_map}
use Rattle.std.specs.Cmp.{IsTotalOrder, IsEquivalence}
use Rattle.std.specs.Ordering.{eq_by_cmp}
use Rattle.std.proofs.lemmas.Cmp.{eq_by_cmp_equiv, on_total}
use Rattle.std.proofs.lemmas.Bool.{and_parts, and_from, eqb-true}
use Rattle.std.proofs.lemmas.Slice.Eq.{bytes_eq-Decides}
use Rattle.std.proofs.lemmas.Map.Lookups.{CmpEqualImpliesEq}
use Rattle.py_imports.specs.Grammar as grammar
use Rattle.isort_settings.specs.Values.{Values}
use Rattle.isort_sort.specs.Statement.{Statement, straight, form_place, module_of, own_item, item_cmp, same_alias, same_statement}
use Rattle.isort_sort.specs.Private.Values.{item_value}
use Rattle.isort_sort.specs.declared.statement.FromItem as code
use Rattle.isort_sort.proofs.Orders.SortedVectors.{by_value, is_equal}
use Rattle.isort_sort.proofs.Orders.Statements.{same_parts}

-- aliases that pass the test are the same, and each passes it with itself
pub same_aliases : (a b : Option (List ℕ)) → same_alias a b ≡ true → a ≡ b
same_aliases None None h = refl
same_aliases None (Some b) h = absurd (cc)
same_aliases (Some a) None h = absurd (cc)
same_aliases (Some a) (Some b) h = ap Some ((bytes_eq-Decides a b).0 h)

pub alias_itself : (a : Option (List ℕ)) → same_alias a a ≡ true
alias_itself None = refl
alias_itself (Some a) = (bytes_eq-Decides a a).1 refl

-- statements that pass the test are the same, and each passes it with itself
pub is_same : (a b : Statement) → same_statement a b ≡ true → a ≡ b
is_same a b h =
    let form = and_parts (form_place a == form_place b && bytes_eq (module_of a) (module_of b) && bytes_eq (own_item a).path (own_item b).path) (same_alias (own_item a).alias (own_item b).alias) h in
    let path = and_parts (form_place a == form_place b && bytes_eq (module_of a) (module_of b)) (bytes_eq (own_item a).path (own_item b).path) form.0 in
    let both = and_parts (form_place a == form_place b) (bytes_eq (module_of a) (module_of b)) path.0 in
    let p = (bytes_eq-Decides (own_item a).path (own_item b).path).0 path.1 in
    let l = same_aliases (own_item a).alias (own_item b).alias form.1 in
    same_parts a b (eqb-true (form_place a) (form_place b) both.0) ((bytes_eq-Decides (module_of a) (module_of b)).0 both.1) (λ i. record { path = p i; alias = l i })

and_all : (a b c d : Bool) → a ≡ true → b ≡ true → c ≡ true → d ≡ true → a && b && c && d ≡ true
and_all a b c d h i j k = rw (h, i, j, k)

place_itself : (a : Statement) → form_place a == form_place a ≡ true
place_itself (straight m x) = refl
place_itself _ = refl

pub itself : (a : Statement) → same_statement a a ≡ true
itself a = and_all _ _ _ _ (place_itself a) ((bytes_eq-Decides (module_of a) (module_of a)).1 refl) ((bytes_eq-Decides (own_item a).path (own_item a).path).1 refl) (alias_itself (own_item a).alias)

-- what `==` of items says
abbrev pub item_eq : code.FromItem → code.FromItem → Bool
item_eq x y = string_eq x.name y.name && option_eq string_eq x.alias y.alias

-- two tests that pass at the same values are equal
pub same_test : (a b : Bool) → (a ≡ true → b ≡ true) → (b ≡ true → a ≡ true) → a ≡ b
same_test true b f g = sym (f refl)
same_test false true f g = g refl
same_test false false f g = refl

pub aliases : {Z : Type 0} (a b : Option (String Z)) → option_eq string_eq a b ≡ same_alias (option_map string_bytes a) (option_map string_bytes b)
aliases None None = refl
aliases None (Some b) = refl
aliases (Some a) None = refl
aliases (Some a) (Some b) = refl

same_values_of : (x y : code.FromItem) → item_eq x y ≡ true → item_value x ≡ item_value y
same_values_of x y h =
    let parts = and_parts (string_eq x.name y.name) (option_eq string_eq x.alias y.alias) h in
    let path : string_bytes x.name ≡ string_bytes y.name = (bytes_eq-Decides (string_bytes x.name) (string_bytes y.name)).0 parts.0 in
    let alias = same_aliases (option_map string_bytes x.alias) (option_map string_bytes y.alias) (sym (aliases x.alias y.alias) ∙ parts.1) in
    λ k. record { path = path k; alias = alias k }

equal_of_values : (x y : code.FromItem) → item_value x ≡ item_value y → item_eq x y ≡ true
equal_of_values x y h =
    and_from _ _ ((bytes_eq-Decides (string_bytes x.name) (string_bytes y.name)).1 (ap (λ (i : grammar.Item). i.path) h))
    (aliases x.alias y.alias ∙ ap (same_alias (option_map string_bytes x.alias)) (sym (ap (λ (i : grammar.Item). i.alias) h)) ∙ alias_itself (option_map string_bytes x.alias))

pub ties : (v : Values) → IsTotalOrder (item_cmp v) → CmpEqualImpliesEq (item_cmp v) → (x y : code.FromItem) → item_eq x y ≡ eq_by_cmp (by_value item_value (item_cmp v)) x y
ties v o exact x y =
    same_test _ _
    (λ h. ap (λ i. eq_by_cmp (item_cmp v) (item_value x) i) (sym (same_values_of x y h)) ∙ (eq_by_cmp_equiv o).refl (item_value x))
    (λ h. equal_of_values x y (exact (item_value x) (item_value y) (is_equal (item_cmp v (item_value x) (item_value y)) h)))

pub equivalence : (v : Values) → IsTotalOrder (item_cmp v) → CmpEqualImpliesEq (item_cmp v) → IsEquivalence item_eq
equivalence v o exact =
    let t = ties v o exact in
    let e = eq_by_cmp_equiv (on_total item_value o) in
    record { refl = λ x. t x x ∙ e.refl x; symm = λ x y. t x y ∙ e.symm x y ∙ sym (t y x); congr = λ x y z h. t x z ∙ e.congr x y z (sym (t x y) ∙ h) ∙ sym (t y z) }
