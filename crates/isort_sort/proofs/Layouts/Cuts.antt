-- Items that are packed from left to right are cut as the definition says.
use Rattle.std.proofs.Common.{◌≡◌, ℕ, ◌+◌, ◌-◌, ◌<◌, ◌≤◌, ◌==◌, Bool, true, false, cond, List, [], ◌∷◌, ◌++◌, flat_map, codes, refl, sym, ap, ◌∙◌, subst, append_assoc, arith}
use Rattle.std.specs.Prelude.{nat_le}
use Rattle.std.proofs.lemmas.Bool.{le-leb, lt-leb, leb-true, leb-false}
use Rattle.py_imports.specs.Grammar.{Item}
use Rattle.isort_settings.specs.Values.{Values}
use Rattle.isort_sort.specs.Private.Packing.{line_room, packed, packed_after}
use Rattle.isort_sort.specs.Width.{width}
use Rattle.isort_sort.specs.Wrapping.{IsCut, IsFilled, HasNoRoomFor, ArePacked, fits_line, head, item_text, items_text}
use Rattle.isort_sort.proofs.Layouts.Lengths.{width-append}
use Rattle.isort_sort.proofs.Layouts.Packing.{packed_begins}

alike : (a b c d : ℕ) → (a ≤ b → c ≤ d) → (c ≤ d → a ≤ b) → nat_le a b ≡ nat_le c d
alike a b c d there back = by (nat_le a b) refl
  where
    no : nat_le a b ≡ false → (t : Bool) → nat_le c d ≡ t → nat_le c d ≡ false
    no f true e = let long : b < a = leb-false a b f in let fits : a ≤ b = back (leb-true c d e) in absurd (omega arith)
    no f false e = e

    by : (t : Bool) → nat_le a b ≡ t → nat_le a b ≡ nat_le c d
    by true e = e ∙ sym (le-leb c d (there (leb-true a b e)))
    by false e = e ∙ sym (no e (nat_le c d) refl)

-- by the room on a line, where there are two or more items
abbrev Agrees : (List Item → Bool) → ℕ → Type 0
Agrees fits room = (x y : Item) (items : List Item) → fits (x ∷ y ∷ items) ≡ nat_le (width (items_text (x ∷ y ∷ items))) room

wide : (x y : Item) (items : List Item) → 0 < width (items_text (x ∷ y ∷ items))
wide x y items = omega (arith, width-append (item_text x) (flat_map (λ i. codes ", " ++ item_text i) (y ∷ items)))

by_mode : (grid hanging a b : Bool) (w m n : ℕ) → 0 < w → a ≡ nat_le w m → b ≡ nat_le w n → cond grid a (cond hanging b false) ≡ nat_le w (cond grid m (cond hanging n 0))
by_mode true hanging a b w m n some e f = e
by_mode false true a b w m n some e f = f
by_mode false false a b w m n some e f = sym (lt-leb w 0 some)

fits_agrees : (v : Values) (indentation m : List ℕ) → Agrees (fits_line v indentation m) (line_room v indentation m)
fits_agrees v indentation m x y items =
    let w : ℕ = width (items_text (x ∷ y ∷ items)) in
    let some : 0 < w = wide x y items in
    by_mode (v.multi_line_output == 0) (v.multi_line_output == 2) _ _ w _ _ some
    (alike (width indentation + width (head m) + 1 + w + 1) v.line_length w (v.line_length - (width indentation + (width (head m) + 2))) (λ h. omega arith) (λ h. omega arith))
    (alike (width indentation + 4 + w + 3) v.line_length w (v.line_length - (width indentation + 7)) (λ h. omega arith) (λ h. omega arith))

agrees_after : (fits : List Item → Bool) (room : ℕ) → Agrees fits room → (x i : Item) (line : List Item) → fits (x ∷ line ++ i ∷ []) ≡ nat_le (width (items_text (x ∷ line ++ i ∷ []))) room
agrees_after fits room agrees x i [] = agrees x i []
agrees_after fits room agrees x i (y ∷ line) = agrees x y (line ++ i ∷ [])

filled : (fits : List Item → Bool) (x i : Item) (line : List Item) → fits (x ∷ line ++ i ∷ []) ≡ true → IsFilled fits (x ∷ line ++ i ∷ [])
filled fits x i [] h = h
filled fits x i (y ∷ line) h = h

full : (fits : List Item → Bool) (x i : Item) (line : List Item) (lines : List (List Item)) (first : List Item) (more : List (List Item)) → lines ≡ (i ∷ first) ∷ more → fits (x ∷ line ++ i ∷ []) ≡ false → HasNoRoomFor fits (x ∷ line) lines
full fits x i line lines first more e h = subst (HasNoRoomFor fits (x ∷ line)) (sym e) h

packed_is_packed : (fits : List Item → Bool) (room : ℕ) → Agrees fits room → (xs : List Item) (x : Item) (line : List Item) → IsFilled fits (x ∷ line) → ArePacked fits (packed_after room xs (x ∷ line))
unfolding packed_after
packed_is_packed fits room agrees [] x line h = (h, tt, tt)
packed_is_packed fits room agrees (i ∷ xs) x line h =
    by (nat_le (width (items_text (x ∷ line ++ i ∷ []))) room) (agrees_after fits room agrees x i line) (λ fit. packed_is_packed fits room agrees xs x (line ++ i ∷ []) (filled fits x i line fit)) (packed_is_packed fits room agrees xs i [] tt)
  where
    by : (b : Bool) → fits (x ∷ line ++ i ∷ []) ≡ b → (fits (x ∷ line ++ i ∷ []) ≡ true → ArePacked fits (packed_after room xs (x ∷ line ++ i ∷ []))) → ArePacked fits (packed_after room xs (i ∷ [])) → ArePacked fits (cond b (packed_after room xs (x ∷ line ++ i ∷ [])) ((x ∷ line) ∷ packed_after room xs (i ∷ [])))
    by true fit longer new = longer fit
    by false fit longer new = let b = packed_begins room xs i [] in (h, full fits x i line (packed_after room xs (i ∷ [])) b.0 b.1 b.2 fit, new)

packed_is_whole : (room : ℕ) (xs : List Item) (x : Item) (line : List Item) → flat_map (λ l. l) (packed_after room xs (x ∷ line)) ≡ x ∷ line ++ xs
unfolding packed_after
packed_is_whole room [] x line = refl
packed_is_whole room (i ∷ xs) x line =
    by (nat_le (width (items_text (x ∷ line ++ i ∷ []))) room) (packed_is_whole room xs x (line ++ i ∷ [])) (packed_is_whole room xs i [])
  where
    by : (b : Bool) → flat_map (λ l. l) (packed_after room xs (x ∷ line ++ i ∷ [])) ≡ x ∷ (line ++ i ∷ []) ++ xs → flat_map (λ l. l) (packed_after room xs (i ∷ [])) ≡ i ∷ xs → flat_map (λ l. l) (cond b (packed_after room xs (x ∷ line ++ i ∷ [])) ((x ∷ line) ∷ packed_after room xs (i ∷ []))) ≡ x ∷ line ++ i ∷ xs
    by true longer new = longer ∙ ap (λ t. x ∷ t) (append_assoc line (i ∷ []) xs)
    by false longer new = ap (λ t. x ∷ line ++ t) new

-- packed items are the cut
pub packed_is_cut : (v : Values) (indentation m : List ℕ) (items : List Item) → IsCut (fits_line v indentation m) items (packed (line_room v indentation m) items)
packed_is_cut v indentation m [] = record { all = refl; packed = tt }
packed_is_cut v indentation m (i ∷ items) = record {
  all = packed_is_whole (line_room v indentation m) items i [];
  packed = packed_is_packed (fits_line v indentation m) (line_room v indentation m) (fits_agrees v indentation m) items i [] tt;
}
