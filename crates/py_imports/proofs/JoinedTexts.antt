-- Two texts with `; ` between them say no action that neither says.
use Rattle.std.proofs.Common.{◌≡◌, ℕ, Bool, true, false, not, ◌||◌, ◌&&◌, List, [], ◌∷◌, ◌++◌, ◌⊎◌, ⊎_elim, inl, inr, codes, length, drop, refl, sym, ap, ◌∙◌}
use Rattle.std.specs.Prelude.{nat_eq}
use Rattle.std.specs.List.{list_any, starts_with}
use Rattle.std.proofs.lemmas.Bool.{and_parts, or_parts, or_cases, both_ways}
use Rattle.py_imports.specs.ActionComment.{action_word, begins_with_word_byte, begins_with_phrase, begins_with_action, says}
use Rattle.py_imports.specs.declared.action_comment.ActionComment.{ActionComment}
use Rattle.py_imports.specs.declared.action_comment.ActionComment.TheVariants as action

-- the text begins with the phrase, byte by byte, and no ASCII letter, digit or `_` follows
abbrev matches : List ℕ → List ℕ → Bool
matches [] text = not (begins_with_word_byte text)
matches (p ∷ ps) [] = false
matches (p ∷ ps) (b ∷ bs) = nat_eq p b && matches ps bs

and_assoc : (a b c d : Bool) → b && c ≡ d → (a && b) && c ≡ a && d
and_assoc true b c d e = e
and_assoc false b c d e = refl

phrase_matches : (phrase text : List ℕ) → begins_with_phrase phrase text ≡ matches phrase text
phrase_matches [] text = refl
phrase_matches (p ∷ ps) [] = refl
phrase_matches (p ∷ ps) (b ∷ bs) = and_assoc (nat_eq p b) (starts_with nat_eq bs ps) (not (begins_with_word_byte (drop (length ps) bs))) (matches ps bs) (phrase_matches ps bs)

abbrev has_byte : ℕ → List ℕ → Bool
has_byte c phrase = list_any (λ p. nat_eq p c) phrase

-- a phrase without a semicolon doesn't go on after one
stops : (phrase text rest : List ℕ) → has_byte 59 phrase ≡ false → matches phrase (text ++ 59 ∷ rest) ≡ true → matches phrase text ≡ true
stops [] [] rest h k = refl
stops [] (b ∷ bs) rest h k = k
stops (p ∷ ps) [] rest h k = absurd (both_ways _ (or_parts (nat_eq p 59) (has_byte 59 ps) h).0 (and_parts (nat_eq p 59) (matches ps rest) k).0)
stops (p ∷ ps) (b ∷ bs) rest h k =
    let parts = and_parts (nat_eq p b) (matches ps (bs ++ 59 ∷ rest)) k in
    rw (parts.0, stops ps bs rest (or_parts (nat_eq p 59) (has_byte 59 ps) h).1 parts.1)

no_semicolons : (a : ActionComment) → (has_byte 59 (codes "isort:" ++ action_word a) ≡ false) × (has_byte 59 (codes "isort: " ++ action_word a) ≡ false)
no_semicolons action.SkipFile = (refl, refl)
no_semicolons action.Skip = (refl, refl)
no_semicolons action.Off = (refl, refl)
no_semicolons action.On = (refl, refl)
no_semicolons action.Split = (refl, refl)

or_true : (b : Bool) → b || true ≡ true
or_true true = refl
or_true false = refl

or_both : (a b c d : Bool) → (a ≡ true → c ≡ true) → (b ≡ true → d ≡ true) → a || b ≡ true → c || d ≡ true
or_both a b c d f g h = ⊎_elim (λ k. ap (λ x. x || d) (f k)) (λ k. ap (λ x. c || x) (g k) ∙ or_true c) (or_cases a b h)

phrase_before : (phrase text rest : List ℕ) → has_byte 59 phrase ≡ false → begins_with_phrase phrase (text ++ 59 ∷ rest) ≡ true → begins_with_phrase phrase text ≡ true
phrase_before phrase text rest h k = phrase_matches phrase text ∙ stops phrase text rest h (sym (phrase_matches phrase (text ++ 59 ∷ rest)) ∙ k)

-- an action that begins before a semicolon ends before it
action_before : (a : ActionComment) (text rest : List ℕ) → begins_with_action a (text ++ 59 ∷ rest) ≡ true → begins_with_action a text ≡ true
action_before a text rest h =
    or_both _ _ _ _ (phrase_before (codes "isort:" ++ action_word a) text rest (no_semicolons a).0) (phrase_before (codes "isort: " ++ action_word a) text rest (no_semicolons a).1) h

-- an action begins with `i`
other_phrase : (phrase : List ℕ) (b : ℕ) (rest : List ℕ) → nat_eq 105 b ≡ false → begins_with_phrase (105 ∷ phrase) (b ∷ rest) ≡ true → ⊥
other_phrase phrase b rest n k = both_ways _ n (and_parts (nat_eq 105 b) (matches phrase rest) (sym (phrase_matches (105 ∷ phrase) (b ∷ rest)) ∙ k)).0

other_byte : (a : ActionComment) (b : ℕ) (rest : List ℕ) → nat_eq 105 b ≡ false → begins_with_action a (b ∷ rest) ≡ true → ⊥
other_byte a b rest n k = ⊎_elim (other_phrase (codes "sort:" ++ action_word a) b rest n) (other_phrase (codes "sort: " ++ action_word a) b rest n) (or_cases _ _ k)

pub says_a_part : (a : ActionComment) (text rest : List ℕ) → says a (text ++ (codes "; " ++ rest)) ≡ true → (says a text ≡ true) ⊎ (says a rest ≡ true)
says_a_part a [] rest h =
    ⊎_elim (λ k. absurd (other_byte a 59 (32 ∷ rest) refl k))
    (λ k. ⊎_elim (λ m. absurd (other_byte a 32 rest refl m)) (λ m. inr m) (or_cases (begins_with_action a (32 ∷ rest)) (says a rest) k))
    (or_cases (begins_with_action a (59 ∷ 32 ∷ rest)) (says a (32 ∷ rest)) h)
says_a_part a (b ∷ bs) rest h =
    ⊎_elim
    (λ k. inl (ap (λ x. x || says a bs) (action_before a (b ∷ bs) (32 ∷ rest) k)))
    (λ k. ⊎_elim (λ m. inl (ap (λ x. begins_with_action a (b ∷ bs) || x) m ∙ or_true (begins_with_action a (b ∷ bs)))) (λ m. inr m) (says_a_part a bs rest k))
    (or_cases (begins_with_action a (b ∷ (bs ++ 59 ∷ 32 ∷ rest))) (says a (bs ++ 59 ∷ 32 ∷ rest)) h)
