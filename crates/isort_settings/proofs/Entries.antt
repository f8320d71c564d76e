-- The entries of an array, one after another.
use Rattle.std.proofs.Common.{◌≡◌, ℕ, ◌+◌, ◌<◌, ◌≤◌, Option, Some, None, List, [], ◌∷◌, ◌++◌, length, map, drop, get_or, String, Global, string_bytes, option_map, refl, sym, ap, ◌∙◌, append_assoc}
use Rattle.std.proofs.lemmas.List.{append-nil, drop_all, drop_more}
use Rattle.toml.specs.Data.{Data, Items, item}
use Rattle.toml.specs.View.{view, items_view}
use Rattle.toml.specs.declared.value.Value.{Value}
use Rattle.isort_settings.specs.Reading.{entry_of, entries_of}

-- what goes before the entries that are left, with one of them
with_next : (so_far : List (List ℕ)) (text : List ℕ) (left : Option (List (List ℕ))) → option_map (λ more. so_far ++ more) (option_map (λ more. text ∷ more) left) ≡ option_map (λ more. (so_far ++ text ∷ []) ++ more) left
with_next so_far text None = refl
with_next so_far text (Some more) = ap (λ ts. Some ts) (sym (append_assoc so_far (text ∷ []) more))

next_entry : (so_far : List (List ℕ)) (text : List ℕ) (d : Data) (ds : Items) → entry_of d ≡ Some text → option_map (λ more. so_far ++ more) (entries_of (item d ds)) ≡ option_map (λ more. (so_far ++ text ∷ []) ++ more) (entries_of ds)
next_entry so_far text d ds e = rw e (with_next so_far text (entries_of ds))

-- one entry more was put after those so far
pub one_more_entry : (items : List Value) (i : ℕ) (v : Value) (list new : List (String Global)) (text : List ℕ) → i < length items → v ≡ get_or items i v
    → entries_of (items_view items) ≡ option_map (λ more. map string_bytes list ++ more) (entries_of (items_view (drop i items)))
    → Some text ≡ entry_of (view v) → map string_bytes new ≡ map string_bytes list ++ text ∷ []
    → entries_of (items_view items) ≡ option_map (λ more. map string_bytes new ++ more) (entries_of (items_view (drop (i + 1) items)))
one_more_entry items i v list new text within at so_far entry put =
    let rest = drop (i + 1) items in
    so_far
    ∙ ap (λ vs. option_map (λ more. map string_bytes list ++ more) (entries_of (items_view vs))) (drop_more items i v within ∙ ap (λ w. w ∷ rest) (sym at))
    ∙ next_entry (map string_bytes list) text (view v) (items_view rest) (sym entry)
    ∙ ap (λ ts. option_map (λ more. ts ++ more) (entries_of (items_view rest))) (sym put)

-- one that is no entry refuses the whole array
pub refused_at : (items : List Value) (i : ℕ) (v : Value) (list : List (String Global)) → i < length items → v ≡ get_or items i v
    → entries_of (items_view items) ≡ option_map (λ more. map string_bytes list ++ more) (entries_of (items_view (drop i items)))
    → None ≡ entry_of (view v) → None ≡ entries_of (items_view items)
refused_at items i v list within at so_far entry =
    sym (so_far
    ∙ ap (λ vs. option_map (λ more. map string_bytes list ++ more) (entries_of (items_view vs))) (drop_more items i v within ∙ ap (λ w. w ∷ drop (i + 1) items) (sym at))
    ∙ rw (← entry) refl)

-- at the end those so far are all
pub all_entries : (items : List Value) (i : ℕ) (list : List (String Global)) → length items ≤ i
    → entries_of (items_view items) ≡ option_map (λ more. map string_bytes list ++ more) (entries_of (items_view (drop i items)))
    → Some (map string_bytes list) ≡ entries_of (items_view items)
all_entries items i list past so_far =
    sym (so_far ∙ ap (λ vs. option_map (λ more. map string_bytes list ++ more) (entries_of (items_view vs))) (drop_all i items past) ∙ ap (λ ts. Some ts) (append-nil (map string_bytes list)))
