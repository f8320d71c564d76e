-- Fewer items make a shorter line.
use Rattle.std.proofs.Common.{◌≡◌, ℕ, ◌+◌, ◌≤◌, ◌==◌, append_assoc, Bool, true, false, cond, List, [], ◌∷◌, ◌++◌, flat_map, codes, sym, ap, ◌∙◌, arith}
use Rattle.std.specs.Prelude.{nat_le}
use Rattle.isort_sort.specs.Width.{width}
use Rattle.std.proofs.lemmas.Bool.{le-leb, leb-true}
use Rattle.std.proofs.lemmas.List.Concat.{flat_map-append}
use Rattle.py_imports.specs.Grammar.{Item}
use Rattle.isort_settings.specs.Values.{Values}
use Rattle.isort_sort.specs.Wrapping.{item_text, items_text, fits_line}
use Rattle.isort_sort.proofs.Layouts.OneCut.{Shrinks}

pub width-append : (a b : List ℕ) → width (a ++ b) ≡ width a + width b
width-append [] b = omega arith
width-append (x ∷ a) b = omega (arith, width-append a b)

-- fewer items are no longer
shorter : (xs ys : List Item) → width (items_text xs) ≤ width (items_text (xs ++ ys))
shorter [] ys = omega arith
shorter (x ∷ xs) ys =
    let text : Item → List ℕ = λ y. codes ", " ++ item_text y in
    let e : items_text (x ∷ xs ++ ys) ≡ items_text (x ∷ xs) ++ flat_map text ys = ap (λ t. item_text x ++ t) (flat_map-append text xs ys) ∙ sym (append_assoc (item_text x) (flat_map text xs) (flat_map text ys)) in
    omega (arith, ap width e, width-append (items_text (x ∷ xs)) (flat_map text ys))

by_length : (a b n : ℕ) → a ≤ b → nat_le b n ≡ true → nat_le a n ≡ true
by_length a b n le h = le-leb a n (omega (arith, leb-true b n h))

by_mode : (m n : Bool) (a b c d : Bool) → (b ≡ true → a ≡ true) → (d ≡ true → c ≡ true) → cond m b (cond n d false) ≡ true → cond m a (cond n c false) ≡ true
by_mode true n a b c d first second h = first h
by_mode false true a b c d first second h = second h
by_mode false false a b c d first second h = h

pub fits_line_shrinks : (v : Values) (indentation m : List ℕ) → Shrinks (fits_line v indentation m)
fits_line_shrinks v indentation m xs ys h =
    by_mode (v.multi_line_output == 0) (v.multi_line_output == 2) _ _ _ _
    (by_length _ _ v.line_length (omega (arith, shorter xs ys)))
    (by_length _ _ v.line_length (omega (arith, shorter xs ys))) h
