-- The index of the lists of own sections, name by name and list by list.
use Rattle.std.proofs.Common.{◌≡◌, ◌==◌, ℕ, ◌+◌, ◌<◌, Bool, true, false, ◌||◌, ◌&&◌, cond, if◌then◌else◌, List, [], ◌∷◌, ◌++◌, map, length, take, get_or, Option, Some, None, bytes_eq, string_bytes, String, Global, Vec, refl, sym, ◌∙◌, ap, arith, length-take-le}
use Rattle.std.proofs.lemmas.List.{length-map, map-append, take_more}
use Rattle.std.proofs.lemmas.List.Folds.{list_any-append}
use Rattle.std.specs.Cmp.Derive.Mapped.{pointwise-map}
use Rattle.std.specs.Cmp.Lexicographic.{pointwise}
use Rattle.std.specs.List.{position_from}
use Rattle.std.specs.Option.{option_or}
use Rattle.isort_settings.specs.Holds.{holds}
use Rattle.isort_settings.specs.OwnLists.{modules_of_lists}
use Rattle.isort_settings.proofs.Places.{place-push}

abbrev Texts : Type 0
Texts = Vec (String Global) Global

abbrev bytes_of : Texts → List (List ℕ)
bytes_of list = map string_bytes list.items

-- lists of texts are compared by the texts' bytes
pub same_lists : (xs ys : List Texts)
    → pointwise (pointwise bytes_eq) (modules_of_lists xs) (modules_of_lists ys) ≡ pointwise (λ a b. pointwise (λ s t. bytes_eq (string_bytes s) (string_bytes t)) a.items b.items) xs ys
same_lists [] [] = refl
same_lists [] (y ∷ ys) = refl
same_lists (x ∷ xs) [] = refl
same_lists (x ∷ xs) (y ∷ ys) =
    ap (λ b. b && pointwise (pointwise bytes_eq) (modules_of_lists xs) (modules_of_lists ys)) (pointwise-map string_bytes bytes_eq x.items y.items)
    ∙ ap (λ b. pointwise (λ s t. bytes_eq (string_bytes s) (string_bytes t)) x.items y.items && b) (same_lists xs ys)

and_false : (b : Bool) → (b && false) ≡ false
and_false true = refl
and_false false = refl

or_false : (b : Bool) → (b || false) ≡ b
or_false true = refl
or_false false = refl

holds-push : (texts : List (List ℕ)) (one text : List ℕ) → holds (texts ++ one ∷ []) text ≡ (holds texts text || bytes_eq one text)
holds-push texts one text = list_any-append (λ t. bytes_eq t text) texts (one ∷ []) ∙ ap (λ b. holds texts text || b) (or_false (bytes_eq one text))

holds_more : (list : List (String Global)) (i : ℕ) (name : String Global) (text : List ℕ) → i < length list → name ≡ get_or list i name
    → holds (map string_bytes (take (i + 1) list)) text ≡ (holds (map string_bytes (take i list)) text || bytes_eq (string_bytes name) text)
holds_more list i name text within at =
    ap (λ xs. holds (map string_bytes xs) text) (take_more list i name within ∙ ap (λ x. take i list ++ x ∷ []) (sym at))
    ∙ ap (λ ts. holds ts text) (map-append string_bytes (take i list) (name ∷ []))
    ∙ holds-push (map string_bytes (take i list)) (string_bytes name) text

either : (o : Option ℕ) (a b : Bool) (place : ℕ)
    → option_or (option_or o (if a then Some place else None)) (if b then Some place else None) ≡ option_or o (if a || b then Some place else None)
either (Some n) a b place = refl
either None true b place = refl
either None false b place = refl

-- a text that is longer than a name isn't that name
pub other-longer : (name text : List ℕ) → length name < length text → bytes_eq name text ≡ false
other-longer [] [] longer = absurd (omega (arith, longer))
other-longer [] (c ∷ text) longer = refl
other-longer (n ∷ name) [] longer = absurd (omega (arith, longer))
other-longer (n ∷ name) (c ∷ text) longer = rw (other-longer name text (omega (arith, longer))) (and_false (n == c))

-- where a name is added, a text that is longer than it and than all before has no place
pub longer_has_no_place : (name text : List ℕ) (place : ℕ) (before now : Option ℕ) → now ≡ option_or before (if bytes_eq name text then Some place else None)
    → before ≡ None → length name < length text → now ≡ None
longer_has_no_place name text place before now added none longer = rw (none, other-longer name text longer) at added

-- a name more of a list was added
pub one_name_more : (list : List (String Global)) (i place : ℕ) (name : String Global) (text : List ℕ) (start before now : Option ℕ) → i < length list → name ≡ get_or list i name
    → before ≡ option_or start (if holds (map string_bytes (take i list)) text then Some place else None)
    → now ≡ option_or before (if bytes_eq (string_bytes name) text then Some place else None)
    → now ≡ option_or start (if holds (map string_bytes (take (i + 1) list)) text then Some place else None)
one_name_more list i place name text start before now within at so_far added =
    added
    ∙ ap (λ o. option_or o (if bytes_eq (string_bytes name) text then Some place else None)) so_far
    ∙ either start (holds (map string_bytes (take i list)) text) (bytes_eq (string_bytes name) text) place
    ∙ ap (λ b. option_or start (if b then Some place else None)) (sym (holds_more list i name text within at))

-- a list more was added
pub one_list_more : (lists : List Texts) (i : ℕ) (list : Texts) (text : List ℕ) (before now : Option ℕ) → i < length lists → list ≡ get_or lists i list
    → before ≡ position_from (λ l. holds l text) 0 (modules_of_lists (take i lists))
    → now ≡ option_or before (if holds (map string_bytes list.items) text then Some i else None)
    → now ≡ position_from (λ l. holds l text) 0 (modules_of_lists (take (i + 1) lists))
one_list_more lists i list text before now within at so_far added =
    let p : List (List ℕ) → Bool = λ l. holds l text in
    let size : 0 + length (modules_of_lists (take i lists)) ≡ i = omega (arith, length-map (take i lists) bytes_of, length-take-le i lists (omega (arith, within))) in
    added
    ∙ ap (λ o. option_or o (if holds (bytes_of list) text then Some i else None)) so_far
    ∙ ap (λ n. option_or (position_from p 0 (modules_of_lists (take i lists))) (cond (holds (bytes_of list) text) (Some n) None)) (sym size)
    ∙ sym (place-push p 0 (modules_of_lists (take i lists)) (bytes_of list))
    ∙ ap (position_from p 0) (sym (map-append bytes_of (take i lists) (list ∷ [])))
    ∙ ap (λ xs. position_from p 0 (modules_of_lists xs)) (sym (take_more lists i list within ∙ ap (λ x. take i lists ++ x ∷ []) (sym at)))
