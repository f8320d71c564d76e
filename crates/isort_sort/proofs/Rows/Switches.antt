-- Whether sorting is off after lines. Those that turn it neither off nor on change nothing for the lines after them.
use Rattle.std.proofs.Common.{◌≡◌, Bool, true, false, cond, not, ◌&&◌, ◌||◌, List, [], ◌∷◌, ◌++◌, refl, ap, ◌∙◌}
use Rattle.std.specs.List.{list_any}
use Rattle.std.proofs.Math.Bool.{and-false, or-false, or-true}
use Rattle.std.proofs.lemmas.List.Folds.{list_any-append}
use Rattle.py_lines.specs.LogicalLine.{LogicalLine}
use Rattle.isort_sort.specs.LaidAgain.{SwitchNothing}
use Rattle.isort_sort.specs.Private.LineRole.{turned}
use Rattle.isort_sort.specs.Row.{says_off, says_on, is_off_after}

none_on : (lines after : List LogicalLine) → SwitchNothing lines → list_any says_on (lines ++ after) ≡ list_any says_on after
none_on [] after h = refl
none_on (line ∷ lines) after h = ap (λ b. b || list_any says_on (lines ++ after)) h.1 ∙ none_on lines after h.2

same_on : (before lines after : List LogicalLine) → SwitchNothing lines → list_any says_on (before ++ (lines ++ after)) ≡ list_any says_on (before ++ after)
same_on [] lines after h = none_on lines after h
same_on (line ∷ before) lines after h = ap (λ b. says_on line || b) (same_on before lines after h)

none_switched : (lines after : List LogicalLine) → SwitchNothing lines → is_off_after (lines ++ after) ≡ is_off_after after
none_switched [] after h = refl
none_switched (line ∷ lines) after h = ap (λ b. (b && not (list_any says_on (lines ++ after))) || is_off_after (lines ++ after)) h.0 ∙ none_switched lines after h.2

pub same_switch : (before lines after : List LogicalLine) → SwitchNothing lines → is_off_after (before ++ (lines ++ after)) ≡ is_off_after (before ++ after)
same_switch [] lines after h = none_switched lines after h
same_switch (line ∷ before) lines after h =
    ap (λ b. (says_off line && not b) || is_off_after (before ++ (lines ++ after))) (same_on before lines after h)
    ∙ ap (λ b. (says_off line && not (list_any says_on (before ++ after))) || b) (same_switch before lines after h)

-- one line more, which says `off` or `on`
turns : (off on first any was : Bool) → (first && not (any || (on || false))) || cond off true (cond on false was) ≡ cond off true (cond on false ((first && not any) || was))
turns true on first any was = or-true (first && not (any || (on || false)))
turns false true first true was = or-false (first && false) ∙ and-false first
turns false true first false was = or-false (first && false) ∙ and-false first
turns false false first true was = refl
turns false false first false was = refl

pub off_push : (lines : List LogicalLine) (line : LogicalLine) → is_off_after (lines ++ line ∷ []) ≡ turned (is_off_after lines) line
off_push [] line = by (says_off line) (says_on line)
  where
    by : (a b : Bool) → (a && true) || false ≡ cond a true (cond b false false)
    by true b = refl
    by false true = refl
    by false false = refl
off_push (l ∷ ls) line =
    (λ i. (says_off l && not (list_any-append says_on ls (line ∷ []) i)) || off_push ls line i)
    ∙ turns (says_off line) (says_on line) (says_off l) (list_any says_on ls) (is_off_after ls)
