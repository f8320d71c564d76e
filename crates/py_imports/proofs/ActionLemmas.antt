-- Texts that begin with an action.
use Rattle.std.proofs.Common.{◌≡◌, ℕ, ◌+◌, ◌-◌, ◌<◌, ◌≤◌, Bool, true, false, nat_eq, ◌||◌, List, [], ◌∷◌, ◌++◌, codes, length, take, drop, length-drop, arith, refl, sym, ap, ◌∙◌}
use Rattle.std.proofs.lemmas.Bool.{ne_eqb}
use Rattle.std.proofs.lemmas.List.{take-append-drop, take_all, drop_all, drop_more}
use Rattle.std.specs.Cmp.Lexicographic.{pointwise, same_text}
use Rattle.std.specs.List.{list_any}
use Rattle.py_imports.specs.ActionComment.{action_word, begins_with_phrase, begins_with_action, tails, says}
use Rattle.py_imports.specs.declared.action_comment.ActionComment.{ActionComment}
use Rattle.py_imports.specs.declared.action_comment.ActionComment.TheVariants as action

-- a text that was seen to begin with another is that and the rest
front_and_rest : (front text rest : List ℕ) → pointwise nat_eq (take (length front) text) front ≡ true → rest ≡ drop (length front) text → text ≡ front ++ rest
front_and_rest front text rest e r = sym (take-append-drop (length front) text) ∙ ap (λ x. x ++ drop (length front) text) (same_text (take (length front) text) front (sym e)) ∙ ap (λ x. front ++ x) (sym r)

-- after `isort:` stand the action, or a space and the action
behind_name : (a : ActionComment) (rest : List ℕ) → begins_with_action a (codes "isort:" ++ rest) ≡ begins_with_phrase (action_word a) rest || begins_with_phrase (32 ∷ action_word a) rest
behind_name a rest = refl

-- no action begins with a space
spaced : (a : ActionComment) (word : List ℕ) → begins_with_phrase (action_word a) word ≡ begins_with_phrase (action_word a) (32 ∷ word) || begins_with_phrase (32 ∷ action_word a) (32 ∷ word)
spaced action.SkipFile word = refl
spaced action.Skip word = refl
spaced action.Off word = refl
spaced action.On word = refl
spaced action.Split word = refl

no_space : (phrase rest : List ℕ) → pointwise nat_eq (take 1 rest) (32 ∷ []) ≡ false → begins_with_phrase (32 ∷ phrase) rest ≡ false
no_space phrase [] e = refl
no_space phrase (b ∷ bs) e = rw (ne_eqb 32 b (λ same. differs (sym same))) refl
  where
    differs : b ≡ 32 → ⊥
    differs same = let f : true ≡ false = sym (rw same refl) ∙ e in cc

no_action : (b : Bool) → b ≡ b || false
no_action true = refl
no_action false = refl

-- `isort:` and a space were passed
pub action_behind_space : (a : ActionComment) (text rest word : List ℕ) → pointwise nat_eq (take 6 text) (codes "isort:") ≡ true → rest ≡ drop 6 text → pointwise nat_eq (take 1 rest) (32 ∷ []) ≡ true → word ≡ drop 1 rest → begins_with_phrase (action_word a) word ≡ begins_with_action a text
action_behind_space a text rest word e r f w =
    spaced a word ∙ sym (behind_name a (32 ∷ word)) ∙ ap (λ x. begins_with_action a (codes "isort:" ++ x)) (sym (front_and_rest (32 ∷ []) rest word f w)) ∙ ap (begins_with_action a) (sym (front_and_rest (codes "isort:") text rest e r))

-- `isort:` was passed, and no space follows
pub action_behind_name : (a : ActionComment) (text rest : List ℕ) → pointwise nat_eq (take 6 text) (codes "isort:") ≡ true → rest ≡ drop 6 text → pointwise nat_eq (take 1 rest) (32 ∷ []) ≡ false → begins_with_phrase (action_word a) rest ≡ begins_with_action a text
action_behind_name a text rest e r f =
    no_action (begins_with_phrase (action_word a) rest) ∙ ap (λ b. begins_with_phrase (action_word a) rest || b) (sym (no_space (action_word a) rest f)) ∙ sym (behind_name a rest) ∙ ap (begins_with_action a) (sym (front_and_rest (codes "isort:") text rest e r))

-- what a text holds from one place on
from_place : (text : List ℕ) (i : ℕ) → take (length text - i) (drop i text) ≡ drop i text
from_place text i = take_all (length text - i) (drop i text) (rw (length-drop i text) (omega arith))

-- one place more was passed, at which the action doesn't begin
pub passes_place : (a : ActionComment) (text : List ℕ) (i : ℕ) → i < length text → list_any (begins_with_action a) (tails text) ≡ list_any (begins_with_action a) (tails (drop i text)) → false ≡ begins_with_action a (take (length text - i) (drop i text)) → list_any (begins_with_action a) (tails text) ≡ list_any (begins_with_action a) (tails (drop (i + 1) text))
passes_place a text i within e h =
    let here = drop_more text i 0 within in
    let differs = h ∙ ap (begins_with_action a) (from_place text i) in
    e ∙ ap (λ x. list_any (begins_with_action a) (tails x)) here ∙ ap (λ x. begins_with_action a x || list_any (begins_with_action a) (tails (drop (i + 1) text))) (sym here) ∙ ap (λ b. b || list_any (begins_with_action a) (tails (drop (i + 1) text))) (sym differs)

-- the action begins at this place
pub says_here : (a : ActionComment) (text bytes : List ℕ) (i : ℕ) → bytes ≡ text → i < length bytes → list_any (begins_with_action a) (tails bytes) ≡ list_any (begins_with_action a) (tails (drop i bytes)) → true ≡ begins_with_action a (take (length bytes - i) (drop i bytes)) → true ≡ says a text
says_here a text bytes i same within e h =
    let here = drop_more bytes i 0 within in
    let begins = h ∙ ap (begins_with_action a) (from_place bytes i ∙ here) in
    sym (ap (says a) (sym same) ∙ e ∙ ap (λ x. list_any (begins_with_action a) (tails x)) here ∙ ap (λ b. b || list_any (begins_with_action a) (tails (drop (i + 1) bytes))) (sym begins))

not_in_nothing : (a : ActionComment) → list_any (begins_with_action a) (tails []) ≡ false
not_in_nothing action.SkipFile = refl
not_in_nothing action.Skip = refl
not_in_nothing action.Off = refl
not_in_nothing action.On = refl
not_in_nothing action.Split = refl

-- the action begins nowhere
pub says_nowhere : (a : ActionComment) (text bytes : List ℕ) (i : ℕ) → bytes ≡ text → length bytes ≤ i → list_any (begins_with_action a) (tails bytes) ≡ list_any (begins_with_action a) (tails (drop i bytes)) → false ≡ says a text
says_nowhere a text bytes i same end e =
    sym (ap (says a) (sym same) ∙ e ∙ ap (λ x. list_any (begins_with_action a) (tails x)) (drop_all i bytes end) ∙ not_in_nothing a)
