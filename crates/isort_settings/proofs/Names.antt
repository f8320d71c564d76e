-- The names that `sections` lists, one after another.
use Rattle.std.proofs.Common.{◌≡◌, ◌↔◌, ℕ, ◌+◌, ◌-◌, ◌<◌, Bool, true, false, not, ◌&&◌, ◌||◌, cond, IsTrue, List, [], ◌∷◌, ◌++◌, map, length, take, drop, get_or, Option, Some, None, bytes_eq, option_map, unwrap_or, Bor, string_bytes, String, Global, refl, sym, ◌∙◌, ap, arith}
use Rattle.std.proofs.lemmas.Bool.{false_from_ne_true}
use Rattle.std.proofs.lemmas.List.{drop_more, get_or-map, length-drop, length-map, map-append, take_all, take_more}
use Rattle.std.proofs.lemmas.List.Elements.{filter_map-append}
use Rattle.std.proofs.lemmas.Option.{slice_get-get_or, slice_get_past, unwrap_or-slice_get}
use Rattle.std.proofs.lemmas.Slice.Eq.{bytes_eq-Decides}
use Rattle.std.specs.List.{list_any, filter_map, cons_option, position, prefix_len, slice_get}
use Rattle.std.specs.Slice.{IsItemAt}
use Rattle.std.specs.Str.{str_eq_ignore_ascii_case}
use Rattle.isort_settings.specs.declared.section.Section.{Section}
use Rattle.isort_settings.specs.SectionNames.{are_apart}

-- an answer that says whether two texts are equal
pub says_equal : (b : Bool) (xs ys : List ℕ) → IsTrue b ↔ (xs ≡ ys) → b ≡ bytes_eq xs ys
says_equal true xs ys h = sym ((bytes_eq-Decides xs ys).1 (h.0 refl))
says_equal false xs ys h = sym (false_from_ne_true _ (λ t. absurd_false (h.1 ((bytes_eq-Decides xs ys).0 t))))
  where
    absurd_false : false ≡ true → ⊥
    absurd_false e = cc

-- a test of the entries is that test of their bytes
pub any-map : (p : List ℕ → Bool) (names : List (String Global)) → list_any (λ n. p (string_bytes n)) names ≡ list_any p (map string_bytes names)
any-map p [] = refl
any-map p (n ∷ ns) = ap (λ b. p (string_bytes n) || b) (any-map p ns)

-- the bytes of a name more
pub bytes_more : (names : List (String Global)) (i : ℕ) (name : String Global) → i < length names → name ≡ get_or names i name
    → map string_bytes (take (i + 1) names) ≡ map string_bytes (take i names) ++ string_bytes name ∷ []
bytes_more names i name within at =
    ap (map string_bytes) (take_more names i name within ∙ ap (λ x. take i names ++ x ∷ []) (sym at)) ∙ map-append string_bytes (take i names) (name ∷ [])

-- names from a place on are apart where the name there is apart from those after it, and those are apart
pub apart_more : (names : List (String Global)) (i : ℕ) (name : String Global) (text : List ℕ) (apart : Bool) → i < length names → name ≡ get_or names i name → text ≡ string_bytes name
    → apart ≡ not (list_any (λ other. str_eq_ignore_ascii_case other text) (map string_bytes (take (length names - (i + 1)) (drop (i + 1) names))))
    → are_apart (map string_bytes (drop i names)) ≡ (apart && are_apart (map string_bytes (drop (i + 1) names)))
apart_more names i name text apart within at same is =
    let after = drop (i + 1) names in
    ap (λ ns. are_apart (map string_bytes ns)) (drop_more names i name within ∙ ap (λ n. n ∷ after) (sym at))
    ∙ ap (λ b. b && are_apart (map string_bytes after))
    (ap (λ t. not (list_any (λ other. str_eq_ignore_ascii_case other t) (map string_bytes after))) (sym same)
    ∙ ap (λ ns. not (list_any (λ other. str_eq_ignore_ascii_case other text) (map string_bytes ns))) (sym (take_all (length names - (i + 1)) after (omega (arith, length-drop (i + 1) names))))
    ∙ sym is)

-- what the bytes of the names give, with a name more
pub mapped_more : {Y : Type 0} (f : List ℕ → Y) (names : List (String Global)) (i : ℕ) (name : String Global) (text : List ℕ) (so_far new : List Y) (y : Y) → i < length names → name ≡ get_or names i name
    → text ≡ string_bytes name → y ≡ f text → so_far ≡ map f (map string_bytes (take i names)) → new ≡ so_far ++ y ∷ [] → new ≡ map f (map string_bytes (take (i + 1) names))
mapped_more f names i name text so_far new y within at same is before put =
    put ∙ ap (λ ys. ys ++ y ∷ []) before ∙ ap (λ z. map f (map string_bytes (take i names)) ++ z ∷ []) (is ∙ ap f same)
    ∙ sym (map-append f (map string_bytes (take i names)) (string_bytes name ∷ [])) ∙ ap (map f) (sym (bytes_more names i name within at))

-- the place of a text is that among the bytes of the entries
prefix-map : (p : List ℕ → Bool) (names : List (String Global)) → prefix_len p (map string_bytes names) ≡ prefix_len (λ n. p (string_bytes n)) names
prefix-map p [] = refl
prefix-map p (n ∷ ns) = ap (λ k. cond (p (string_bytes n)) (1 + k) 0) (prefix-map p ns)

pub place-map : (p : List ℕ → Bool) (names : List (String Global)) → position (λ n. p (string_bytes n)) names ≡ position p (map string_bytes names)
place-map p names = sym (rw (prefix-map (λ x. not (p x)) names, length-map names string_bytes) refl)

-- the bytes of the entry at a place, if it is there
pub entry_found : (names : List (String Global)) (i : ℕ) (found : Option (Bor (String Global))) → IsItemAt names i found
    → option_map (λ e. string_bytes e.now) found ≡ slice_get (map string_bytes names) i
entry_found names i (Some e) item =
    ap (λ s. Some (string_bytes s)) (item.4 (omega arith) e.now)
    ∙ ap Some (sym (get_or-map string_bytes names i e.now [] item.3.0))
    ∙ sym (slice_get-get_or (map string_bytes names) i [] (omega (arith, length-map names string_bytes, item.3.0)))
entry_found names i None item = sym (slice_get_past (map string_bytes names) i (omega (arith, length-map names string_bytes, item.3)))

pub name_found : (names : List (String Global)) (i : ℕ) (found : Option (Bor (String Global))) → IsItemAt names i found
    → unwrap_or (option_map (λ n. string_bytes n.now) found) [] ≡ get_or (map string_bytes names) i []
name_found names i found item = ap (λ o. unwrap_or o []) (entry_found names i found item) ∙ unwrap_or-slice_get (map string_bytes names) i []

-- a list with what an answer has
abbrev pub with_answer : List Section → Option Section → List Section
with_answer xs None = xs
with_answer xs (Some s) = xs ++ s ∷ []

no_more : (xs : List Section) → xs ++ [] ≡ xs
no_more [] = refl
no_more (x ∷ xs) = ap (λ ys. x ∷ ys) (no_more xs)

answer_one : (h : List ℕ → Option Section) (xs : List (List ℕ)) (x : List ℕ) (found : Option Section) → h x ≡ found → filter_map h (xs ++ x ∷ []) ≡ with_answer (filter_map h xs) found
answer_one h xs x None is = filter_map-append h xs (x ∷ []) ∙ ap (λ o. filter_map h xs ++ cons_option o []) is ∙ no_more (filter_map h xs)
answer_one h xs x (Some s) is = filter_map-append h xs (x ∷ []) ∙ ap (λ o. filter_map h xs ++ cons_option o []) is

-- the section of a name more
pub sections_more : (h : List ℕ → Option Section) (names : List (String Global)) (i : ℕ) (name : String Global) (text : List ℕ) (found : Option Section) (order : List Section)
    → i < length names → name ≡ get_or names i name → text ≡ string_bytes name → found ≡ h text → order ≡ filter_map h (map string_bytes (take i names))
    → with_answer order found ≡ filter_map h (map string_bytes (take (i + 1) names))
sections_more h names i name text found order within at same is so_far =
    ap (λ xs. with_answer xs found) so_far
    ∙ sym (ap (filter_map h) (bytes_more names i name within at) ∙ answer_one h (map string_bytes (take i names)) (string_bytes name) found (ap h (sym same) ∙ sym is))
