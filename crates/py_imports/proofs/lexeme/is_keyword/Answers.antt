-- A word is looked for among the keywords of its length.
use denote.Bor.{Bor}
use Rattle.std.proofs.Common.{◌≡◌, ◌<◌, ◌≤◌, ◌∙◌, ℕ, rules, tests, true, false, List, [], ◌∷◌, ◌||◌, length, get_or, map, arith, ap, sym, refl}
use Rattle.std.proofs.Math.Dec.{eqb, leb}
use Rattle.std.proofs.lemmas.Bool.Decides.{Decides-eqb, nat_tests}
use Rattle.std.proofs.Math.ListN.{get_or-map}
use Rattle.std.proofs.lemmas.Iterator.{YieldsList-from_slice}
use Rattle.std.proofs.lemmas.Iterator.Search.{any_from_yields_List}
use Rattle.std.proofs.lemmas.List.FromFn.{get_or-map-range_with_len}
use Rattle.std.proofs.lemmas.Map.Views.{any-filter_same}
use Rattle.std.proofs.lemmas.Slice.Eq.{bytes_eq-Decides}
use Rattle.std.specs.List.{filter, list_any, range_with_len}
use Rattle.std.specs.Str.{bytes_eq}
use Rattle.py_imports.specs.Grammar.{is_keyword, keywords}
use Rattle.py_imports.proofs.lexeme.is_keyword.Goals as goal

-- the keywords of this length
abbrev of_length : ℕ → List (List ℕ)
of_length n = filter (λ k. eqb (length k) n) keywords

-- the texts of a row of the table
abbrev texts : Bor (List (Bor (List ℕ))) → List (List ℕ)
texts row = map (λ k. k.now) row.now

-- a word is in a row if it is one of the row's texts
in_texts : (w : List ℕ) (row : List (Bor (List ℕ))) → list_any (λ k. bytes_eq k.now w) row ≡ list_any (λ k. bytes_eq k w) (map (λ k. k.now) row)
in_texts w [] = refl
in_texts w (k ∷ ks) = ap (λ b. bytes_eq k.now w || b) (in_texts w ks)

-- equal words have one length
one_length : (k w : List ℕ) → bytes_eq k w ≡ true → length k ≡ length w
one_length k w h = ap length ((bytes_eq-Decides k w).0 h)

-- a word is a keyword if it is one of those of its length
of_its_length : (w : List ℕ) → list_any (λ k. bytes_eq k w) (of_length (length w)) ≡ is_keyword w
unfolding is_keyword
of_its_length w =
    any-filter_same (λ k. bytes_eq k w) (λ k. eqb (length k) (length w)) true
    (λ k h. (Decides-eqb (length k) (length w)).1 (one_length k w h)) keywords

-- the row of its length is looked up
found : (table : List (Bor (List (Bor (List ℕ))))) (w : List ℕ) (row : Bor (List (Bor (List ℕ)))) → map texts table ≡ map of_length (range_with_len 0 9) → length w < 9 → row ≡ get_or table (length w) row → list_any (λ k. bytes_eq k.now w) row.now ≡ is_keyword w
found table w row same within at =
    in_texts w row.now
    ∙ ap (list_any (λ k. bytes_eq k w)) (ap texts at ∙ sym (get_or-map texts table (length w) row) ∙ ap (λ rows. get_or rows (length w) (texts row)) same ∙ get_or-map-range_with_len of_length 0 9 (length w) (length w) (texts row) within (omega arith))
    ∙ of_its_length w

-- a number that equals one above eight is not at most eight
above : (m n : ℕ) → m ≡ n → 9 ≤ n → leb m 8 ≡ false
above m n e out = grind (arith, nat_tests)

-- a keyword has at most eight bytes
too_long : (w : List ℕ) → 9 ≤ length w → false ≡ is_keyword w
unfolding is_keyword
too_long w out =
    sym (any-filter_same (λ k. bytes_eq k w) (λ k. leb (length k) 8) false
    (λ k h. above (length k) (length w) (one_length k w h) out) keywords)

pub returns-in-Some : goal.returns-in-Some
returns-in-Some c =
    let within = c.in-Some.ensures.lookup.3.0 in
    let at = c.in-Some.ensures.lookup.1 in
    any_from_yields_List (λ keyword. bytes_eq keyword.now c.args.word.now) _ _ _ c.any.ensures.ran (YieldsList-from_slice _ c.iter.ensures.rest) (λ x b q k. search (rules, tests))
    ∙ search (rules, found)

pub returns-in-None : goal.returns-in-None
returns-in-None c = too_long c.args.word.now c.in-None.ensures.lookup.3
