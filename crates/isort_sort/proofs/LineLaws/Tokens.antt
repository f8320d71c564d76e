-- What is known of tokens by the words that they are.
use Rattle.std.proofs.Common.{◌≡◌, ℕ, ◌==◌, Bool, true, false, cond, not, ◌||◌, ◌&&◌, List, [], ◌∷◌, ◌++◌, map, refl, sym, ap, ◌∙◌}
use Rattle.std.specs.Prelude.{filter, slice_range}
use Rattle.std.specs.List.{list_any, list_all}
use Rattle.std.proofs.lemmas.Bool.{or_parts}
use Rattle.std.proofs.lemmas.Simd.{map-map}
use Rattle.py_lines.specs.Words.{Word, word_in}
use Rattle.py_lines.specs.declared.token.Token.{Token}
use Rattle.py_imports.specs.ActionComment.{says}
use Rattle.py_imports.specs.Shape.{is_parenthesis, is_nothing, ends_with_opening, stands_well, says_skip}
use Rattle.py_imports.specs.Statement.{is_comment, is_semicolon, is_divider, significant, depth_after_tokens, places_from, is_end}
use Rattle.py_imports.specs.declared.action_comment.ActionComment.TheVariants as action
use Rattle.isort_sort.proofs.LineLaws.Each.{each-filter, each-false, none-of, filter-map, any-map}
use Rattle.isort_sort.proofs.LineLaws.Parts.{remarks_in, divides}

-- the comments among tokens
pub remarks-of : (text : List ℕ) (ts : List Token) → map (λ t. slice_range text t.start t.stop) (filter (λ t. is_comment t.kind) ts) ≡ remarks_in (map (word_in text) ts)
remarks-of text ts = sym (ap (map (λ w. w.bytes)) (filter-map (λ w. is_comment w.kind) (word_in text) ts) ∙ map-map (λ (w : Word). w.bytes) (word_in text) (filter (λ t. is_comment t.kind) ts))

-- none of them says `skip`
pub skips-of : (text : List ℕ) (ts : List Token) → list_any (says_skip text) ts ≡ list_any (says action.Skip) (remarks_in (map (word_in text) ts))
skips-of text [] = refl
skips-of text (t ∷ ts) = by (is_comment t.kind) (skips-of text ts)
  where
    others : List Word
    others = filter (λ w. is_comment w.kind) (map (word_in text) ts)

    by : (b : Bool) → list_any (says_skip text) ts ≡ list_any (says action.Skip) (map (λ (w : Word). w.bytes) others) → (b && says action.Skip (slice_range text t.start t.stop)) || list_any (says_skip text) ts ≡ list_any (says action.Skip) (map (λ (w : Word). w.bytes) (cond b (word_in text t ∷ others) others))
    by true e = ap (λ x. says action.Skip (slice_range text t.start t.stop) || x) e
    by false e = e

-- no `;` and no `:` among them
pub undivided-of : (text : List ℕ) (ts : List Token) → list_any divides (map (word_in text) ts) ≡ false → list_any (λ t. is_divider t.kind) (significant ts) ≡ false
undivided-of text ts h =
    none-of (λ t. is_divider t.kind) (significant ts) (each-filter (λ t. is_divider t.kind ≡ false) (λ t. not (is_comment t.kind)) ts
    (each-false (λ t. is_divider t.kind) ts (sym (any-map divides (word_in text) ts) ∙ h)))

pub alone-of : (before ts : List Token) → list_any (λ t. is_divider t.kind) ts ≡ false → list_any is_end (places_from before ts) ≡ false
alone-of before [] h = refl
alone-of before (t ∷ ts) h =
    let both = or_parts _ _ h in
    (λ i. ((or_parts (is_semicolon t.kind) _ both.0).0 i && (depth_after_tokens 0 before == 0)) || alone-of (before ++ t ∷ []) ts both.1 i)

-- whether each comment is the last of these words or stands directly after `(`, where `(` may stand before them
abbrev pub no_words : List Word → Bool
no_words [] = true
no_words (w ∷ ws) = false

abbrev pub are_well : Bool → List Word → Bool
are_well opened [] = true
are_well opened (w ∷ ws) = (not (is_comment w.kind) || no_words ws || opened) && are_well (is_parenthesis w.kind) ws

opening-last : (before : List Token) (t : Token) → ends_with_opening (before ++ t ∷ []) ≡ is_parenthesis t.kind
opening-last [] t = refl
opening-last (b ∷ []) t = refl
opening-last (b ∷ c ∷ bs) t = opening-last (c ∷ bs) t

nothing-of : (text : List ℕ) (ts : List Token) → is_nothing ts ≡ no_words (map (word_in text) ts)
nothing-of text [] = refl
nothing-of text (t ∷ ts) = refl

pub well-of : (text : List ℕ) (before ts : List Token) → list_all stands_well (places_from before ts) ≡ are_well (ends_with_opening before) (map (word_in text) ts)
well-of text before [] = refl
well-of text before (t ∷ ts) =
    λ i. (not (is_comment t.kind) || nothing-of text ts i || ends_with_opening before) && (well-of text (before ++ t ∷ []) ts ∙ ap (λ o. are_well o (map (word_in text) ts)) (opening-last before t)) i

-- no comments among the first words
pub well-append : (ws vs : List Word) → remarks_in ws ≡ [] → ((o : Bool) → are_well o vs ≡ true) → (o : Bool) → are_well o (ws ++ vs) ≡ true
well-append [] vs h k o = k o
well-append (w ∷ ws) vs h k o = by (is_comment w.kind) h (λ e. well-append ws vs e k (is_parenthesis w.kind))
  where
    rest : List Word
    rest = filter (λ u. is_comment u.kind) ws

    by : (b : Bool) → map (λ (u : Word). u.bytes) (cond b (w ∷ rest) rest) ≡ [] → (remarks_in ws ≡ [] → are_well (is_parenthesis w.kind) (ws ++ vs) ≡ true) → (not b || no_words (ws ++ vs) || o) && are_well (is_parenthesis w.kind) (ws ++ vs) ≡ true
    by true e more = absurd (cc)
    by false e more = more e
