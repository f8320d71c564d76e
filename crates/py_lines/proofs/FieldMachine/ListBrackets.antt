-- The brackets that are open in a list of pieces.
use Rattle.py_lines.proofs.Prelude.{◌≡◌, ℕ, ◌+◌, ◌-◌, true, false, ◌==◌, Option, None, Some, List, [], ◌∷◌, ◌++◌, length, refl, ap, ◌∙◌, arith, if◌then◌else◌, or_parts, both_ways, Class, operator, Piece, piece}
use Rattle.py_lines.specs.Balance as balance
use Rattle.py_lines.specs.Balance.{is_opening, is_closing, closing_of, is_operator_that, is_opener, is_closer, IsBalanced, depth_after}
use Rattle.py_lines.specs.LogicalLine.{first_or_zero}
use Rattle.py_lines.specs.Private.FieldMachine.{openers_with, openers_by, openers_through}
use Rattle.py_lines.proofs.Pieces.OpenBrackets.{closing-not-opening, pair_kind}

pub openers_through-append : (o : Option (List ℕ)) (ps qs : List Piece) → openers_through o (ps ++ qs) ≡ openers_through (openers_through o ps) qs
openers_through-append None ps qs = refl
openers_through-append (Some os) [] qs = refl
openers_through-append (Some os) (p ∷ ps) qs = openers_through-append (openers_by os p.class p.text) ps qs

pub opening_pushes : (os : List ℕ) (c : ℕ) → is_opening c ≡ true → openers_with os c ≡ Some (c ∷ os)
unfolding openers_with
opening_pushes os c h = grind arith

pub closing_pops : (o : ℕ) (os : List ℕ) (c : ℕ) → is_closing c ≡ true → c == closing_of o ≡ true → openers_with (o ∷ os) c ≡ Some os
unfolding openers_with
closing_pops o os c h kind = rw (closing-not-opening c h, h, kind)

pub others_keep : (os : List ℕ) (c : ℕ) → is_opening c ≡ false → is_closing c ≡ false → openers_with os c ≡ Some os
unfolding openers_with
others_keep os c h k = grind arith

pub no_character : (os : List ℕ) → openers_with os 0 ≡ Some os
unfolding is_opening is_closing
no_character os = others_keep os 0 refl refl

pub opener_pushes : (os : List ℕ) (class : Class) (text : List ℕ) → is_operator_that is_opening class text ≡ true → openers_by os class text ≡ Some (first_or_zero text ∷ os)
opener_pushes os operator (c ∷ cs) h = opening_pushes os c h
opener_pushes os class text h = absurd (both_ways _ refl h)

closer_pops : (o : ℕ) (os : List ℕ) (class : Class) (text : List ℕ) → is_operator_that is_closing class text ≡ true → first_or_zero text == closing_of o ≡ true → openers_by (o ∷ os) class text ≡ Some os
closer_pops o os operator (c ∷ cs) h kind = closing_pops o os c h kind
closer_pops o os other text h kind = absurd (both_ways _ refl h)

other_keeps : (os : List ℕ) (class : Class) (text : List ℕ) → is_operator_that is_opening class text ≡ false → is_operator_that is_closing class text ≡ false → openers_by os class text ≡ Some os
other_keeps os operator [] h k = no_character os
other_keeps os operator (c ∷ cs) h k = others_keep os c h k
other_keeps os other text h k = refl

-- brackets in pairs leave those open that were
pub balanced_openers : (ps : List Piece) → IsBalanced ps → (os : List ℕ) → openers_through (Some os) ps ≡ Some os
balanced_openers ps (balance.none _ is) os = ap (openers_through (Some os)) is
balanced_openers ps (balance.one _ p is other) os =
    let parts = or_parts (is_opener p) (is_closer p) other in
    ap (openers_through (Some os)) is ∙ ap (λ o. openers_through o []) (other_keeps os p.class p.text parts.0 parts.1)
balanced_openers ps (balance.pair _ inner a b is both within) os =
    let now = first_or_zero a.text ∷ os in
    let opened : openers_through (Some os) (a ∷ inner) ≡ Some now = ap (λ o. openers_through o inner) (opener_pushes os a.class a.text both.opens) ∙ balanced_openers inner within now in
    rw (is, openers_through-append (Some os) (a ∷ inner) (b ∷ []), opened) (ap (λ o. openers_through o []) (closer_pops (first_or_zero a.text) os b.class b.text both.closes (pair_kind a b both)))
balanced_openers ps (balance.both _ first second is left right) os = rw (is, openers_through-append (Some os) first second, balanced_openers first left os, balanced_openers second right os)

pub none_some : {A : Type 0} {a : A} → None ≡ Some a → ⊥
none_some h = absurd (cc)

-- as many are open as the depth says, with others round the list
operator_depth : (os after : List ℕ) (c k : ℕ) → openers_with os c ≡ Some after → (if is_opening c then length os + k + 1 else (if is_closing c then length os + k - 1 else length os + k)) ≡ length after + k
unfolding openers_with
operator_depth [] after c k h = grind arith
operator_depth (o ∷ os) after c k h = grind arith

pub depth_is : (os after : List ℕ) (class : Class) (text : List ℕ) (k : ℕ) → openers_by os class text ≡ Some after → depth_after (length os + k) (piece class text) ≡ length after + k
depth_is os after operator [] k h = grind (arith, no_character os)
depth_is os after operator (c ∷ cs) k h = operator_depth os after c k h
depth_is os after other text k h = grind arith
