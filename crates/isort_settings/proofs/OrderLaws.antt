-- Both orders are total, and only equal texts are equal in them.
use Rattle.std.proofs.Common.{◌≡◌, ℕ, ◌+◌, ◌==◌, zero, suc, Bool, true, false, cond, List, [], ◌∷◌, drop, Ordering, Less, Equal, Greater, refl, sym, ◌∙◌, ap, arith}
use Rattle.std.proofs.lemmas.Bool.Decides.{Decides-eqb}
use Rattle.std.proofs.lemmas.Cmp.{on_total, then_total, back_total, lists_total, nat_cmp_total, nat_list_cmp_total}
use Rattle.std.proofs.lemmas.Map.Lookups.{exact_bytes, exact_unsigned}
use Rattle.std.specs.Cmp.{IsTotalOrder}
use Rattle.std.specs.Cmp.Derive.{point_total}
use Rattle.std.specs.Cmp.Lexicographic.{slice_cmp}
use Rattle.std.specs.Ordering.{nat_cmp, ordering_reverse, ordering_then}
use Rattle.std.specs.Str.{byte}
use Rattle.isort_settings.specs.Orders.{Part, text, number, part_cmp, parts, natural_cmp, dots, module_cmp, class_place, name_cmp}
use Rattle.isort_settings.specs.Values.{Values}

part_antisymm : (x y : Part) → part_cmp x y ≡ ordering_reverse (part_cmp y x)
part_antisymm (text a) (text b) = nat_list_cmp_total.antisymm a b
part_antisymm (text a) (number n) = refl
part_antisymm (number m) (text b) = refl
part_antisymm (number m) (number n) = nat_cmp_total.antisymm m n

part_trans : (x y z : Part) → part_cmp x y ≡ Less → part_cmp y z ≡ Less → part_cmp x z ≡ Less
part_trans (text a) (text b) (text c) h k = nat_list_cmp_total.trans a b c h k
part_trans (text a) (text b) (number n) h k = refl
part_trans (text a) (number m) (text c) h k = cc
part_trans (text a) (number m) (number n) h k = refl
part_trans (number l) (text b) (text c) h k = cc
part_trans (number l) (text b) (number n) h k = cc
part_trans (number l) (number m) (text c) h k = cc
part_trans (number l) (number m) (number n) h k = nat_cmp_total.trans l m n h k

part_congr : (x y z : Part) → part_cmp x y ≡ Equal → part_cmp x z ≡ part_cmp y z
part_congr (text a) (text b) (text c) h = nat_list_cmp_total.congr a b c h
part_congr (text a) (text b) (number n) h = refl
part_congr (text a) (number m) z h = cc
part_congr (number l) (text b) z h = cc
part_congr (number l) (number m) (text c) h = refl
part_congr (number l) (number m) (number n) h = nat_cmp_total.congr l m n h

-- the order of the parts
part_cmp_total : IsTotalOrder part_cmp
part_cmp_total = record {
  antisymm = part_antisymm;
  trans = part_trans;
  congr = part_congr;
}

-- the natural order
pub natural_cmp_total : (s : Bool) → IsTotalOrder (natural_cmp s)
natural_cmp_total s = then_total (on_total (parts s) (lists_total part_cmp_total)) nat_list_cmp_total

equal_then : (o p : Ordering) → ordering_then o p ≡ Equal → (o ≡ Equal) × (p ≡ Equal)
equal_then Less p h = cc
equal_then Equal p h = (refl, h)
equal_then Greater p h = cc

pub natural_cmp-Equal : (s : Bool) (a b : List ℕ) → natural_cmp s a b ≡ Equal → a ≡ b
natural_cmp-Equal s a b h =
    let both = equal_then (slice_cmp part_cmp (parts s a) (parts s b)) (slice_cmp nat_cmp a b) h in
    exact_bytes a b both.1

-- the order of modules
pub module_cmp_total : (v : Values) → IsTotalOrder (module_cmp v)
module_cmp_total v = then_total (back_total (on_total dots nat_cmp_total)) (on_total (λ a. drop (dots a) a) (natural_cmp_total v.case_sensitive))

-- some dots and a text
abbrev with_dots : ℕ → List ℕ → List ℕ
with_dots zero rest = rest
with_dots (suc n) rest = byte "." ∷ with_dots n rest

with_dots_step : (b : Bool) (x : ℕ) (xs : List ℕ) → (b ≡ true → x ≡ byte ".") → with_dots (dots xs) (drop (dots xs) xs) ≡ xs
    → with_dots (cond b (1 + dots xs) 0) (drop (cond b (1 + dots xs) 0) (x ∷ xs)) ≡ x ∷ xs
with_dots_step true x xs is rest =
    let e : 1 + dots xs ≡ suc (dots xs) = omega arith in
    ap (λ n. with_dots n (drop n (x ∷ xs))) e ∙ ap (λ t. byte "." ∷ t) rest ∙ ap (λ d. d ∷ xs) (sym (is refl))
with_dots_step false x xs is rest = refl

-- a module is its dots and what follows them
with_dots-dots : (a : List ℕ) → with_dots (dots a) (drop (dots a) a) ≡ a
with_dots-dots [] = refl
with_dots-dots (x ∷ xs) = with_dots_step (x == byte ".") x xs (λ h. (Decides-eqb x (byte ".")).0 h) (with_dots-dots xs)

same_dots : (a b : List ℕ) → dots a ≡ dots b → drop (dots a) a ≡ drop (dots b) b → a ≡ b
same_dots a b m n =
    sym (with_dots-dots a) ∙ ap (λ k. with_dots k (drop (dots a) a)) m ∙ ap (λ t. with_dots (dots b) t) n ∙ with_dots-dots b

pub module_cmp-Equal : (v : Values) (a b : List ℕ) → module_cmp v a b ≡ Equal → a ≡ b
module_cmp-Equal v a b h =
    let both = equal_then (nat_cmp (dots b) (dots a)) (natural_cmp v.case_sensitive (drop (dots a) a) (drop (dots b) b)) h in
    same_dots a b (sym (exact_unsigned (dots b) (dots a) both.0)) (natural_cmp-Equal v.case_sensitive _ _ both.1)

-- the order of names
by_class_total : (by_type : Bool) → IsTotalOrder (λ (a b : List ℕ). cond by_type (nat_cmp (class_place a) (class_place b)) Equal)
by_class_total true = on_total class_place nat_cmp_total
by_class_total false = point_total

pub name_cmp_total : (v : Values) → IsTotalOrder (name_cmp v)
name_cmp_total v = then_total (by_class_total v.order_by_type) (natural_cmp_total v.case_sensitive)

pub name_cmp-Equal : (v : Values) (a b : List ℕ) → name_cmp v a b ≡ Equal → a ≡ b
name_cmp-Equal v a b h =
    let both = equal_then (cond v.order_by_type (nat_cmp (class_place a) (class_place b)) Equal) (natural_cmp v.case_sensitive a b) h in
    natural_cmp-Equal v.case_sensitive a b both.1
