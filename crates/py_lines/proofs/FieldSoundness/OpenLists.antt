-- Brackets that are open in a list of pieces, and what they say of its depth and of its balance.
use Rattle.py_lines.proofs.Prelude.{◌≡◌, ℕ, suc, ◌+◌, true, false, ◌==◌, Option, None, Some, List, [], ◌∷◌, ◌++◌, length, refl, sym, ap, ◌∙◌, subst, append_assoc, append-nil, arith, cond_both, or_from, nil_from_length, Class, operator, Piece, piece}
use Rattle.py_lines.specs.Balance as balance
use Rattle.py_lines.specs.Balance.{is_opening, is_closing, closing_of, is_opener, is_closer, ArePair, IsBalanced, depth_after, depth_through}
use Rattle.py_lines.specs.LogicalLine.{first_or_zero}
use Rattle.py_lines.specs.Private.FieldMachine.{openers_with, openers_by, openers_through}
use Rattle.py_lines.proofs.Pieces.OpenBrackets.{are_pair, balanced_depth, depth_through-append, depth-opener, some_before}
use Rattle.py_lines.proofs.FieldMachine.ListBrackets.{no_character, openers_through-append, balanced_openers}

-- the brackets that are open after pieces, the innermost first, each with the balanced pieces after it
pub data Opens : List ℕ → List Piece → Type 0 where
  level : (os : List ℕ) (ps : List Piece) → os ≡ [] → IsBalanced ps → Opens os ps
  inside : (os : List ℕ) (ps : List Piece) (o : ℕ) (others : List ℕ) (outer inner : List Piece) (a : Piece) → os ≡ o ∷ others
      → ps ≡ outer ++ a ∷ inner → Opens others outer → is_opener a ≡ true → o ≡ first_or_zero a.text → IsBalanced inner → Opens os ps

pub opens-none : Opens [] []
opens-none = level [] [] refl (balance.none [] refl)

-- balanced pieces after them
pub opens-more : (os : List ℕ) (ps qs : List Piece) → Opens os ps → IsBalanced qs → Opens os (ps ++ qs)
opens-more os ps qs (level _ _ none within) more = level os (ps ++ qs) none (balance.both (ps ++ qs) ps qs refl within more)
opens-more os ps qs (inside _ _ o others outer inner a is spell out opens kind within) more =
    inside os (ps ++ qs) o others outer (inner ++ qs) a is (ap (λ l. l ++ qs) spell ∙ append_assoc outer (a ∷ inner) qs) out opens kind (balance.both (inner ++ qs) inner qs refl within more)

-- a piece that is no bracket
pub opens-other : (os : List ℕ) (ps : List Piece) (p : Piece) → Opens os ps → is_opener p ≡ false → is_closer p ≡ false → Opens os (ps ++ p ∷ [])
opens-other os ps p opens one two = opens-more os ps (p ∷ []) opens (balance.one (p ∷ []) p refl (or_from _ _ one two))

-- none is open at the end of balanced pieces alone
pub balanced_at : (os : List ℕ) (ps : List Piece) → os ≡ [] → Opens os ps → IsBalanced ps
balanced_at os ps none (level _ _ is within) = within
balanced_at os ps none (inside _ _ o others outer inner a is spell out opens kind within) = absurd (cc)

pub opens-closes : (o : ℕ) (os : List ℕ) (ps : List Piece) (p : Piece) → Opens (o ∷ os) ps → is_closer p ≡ true → first_or_zero p.text == closing_of o ≡ true → Opens os (ps ++ p ∷ [])
opens-closes o os ps p (level _ _ none within) closes same = absurd (cc)
opens-closes o os ps p (inside _ _ b others outer inner a is spell out opens kind within) closes same =
    let top : o ≡ first_or_zero a.text = (cc) in let rest : others ≡ os = cc in
    let both : ArePair a p = are_pair a p opens closes (subst (λ (x : ℕ). first_or_zero p.text == closing_of x ≡ true) top same) in
    subst (Opens os) (sym (ap (λ l. l ++ p ∷ []) spell ∙ append_assoc outer (a ∷ inner) (p ∷ [])))
    (opens-more os outer (a ∷ inner ++ p ∷ []) (subst (λ l. Opens l outer) rest out) (balance.pair (a ∷ inner ++ p ∷ []) inner a p refl both within))

abbrev pub OpensIf : Option (List ℕ) → List Piece → Type 0
OpensIf None ps = Unit {0}
OpensIf (Some os) ps = Opens os ps

-- an operator after them, and any piece
pub opens-operator : (os : List ℕ) (ps : List Piece) (c : ℕ) (cs : List ℕ) → Opens os ps → OpensIf (openers_with os c) (ps ++ piece operator (c ∷ cs) ∷ [])
unfolding openers_with
opens-operator os ps c cs opens = go os opens where
  p : Piece
  p = piece operator (c ∷ cs)

  pushed : (bs : List ℕ) → Opens bs ps → is_opening c ≡ true → Opens (c ∷ bs) (ps ++ p ∷ [])
  pushed bs own h = inside (c ∷ bs) (ps ++ p ∷ []) c bs ps [] p refl refl own h refl (balance.none [] refl)

  go : (bs : List ℕ) → Opens bs ps → OpensIf (openers_with bs c) (ps ++ p ∷ [])
  go [] own = cond_both (is_opening c) _ _ (λ o. OpensIf o (ps ++ p ∷ [])) (pushed [] own)
      (λ h. cond_both (is_closing c) _ _ (λ o. OpensIf o (ps ++ p ∷ [])) (λ k. tt) (λ k. opens-other [] ps p own h k))
  go (b ∷ bs) own = cond_both (is_opening c) _ _ (λ o. OpensIf o (ps ++ p ∷ [])) (pushed (b ∷ bs) own)
      (λ h. cond_both (is_closing c) _ _ (λ o. OpensIf o (ps ++ p ∷ []))
      (λ k. cond_both (c == closing_of b) (Some bs) None (λ o. OpensIf o (ps ++ p ∷ [])) (λ l. opens-closes b bs ps p own k l) (λ l. tt)) (λ k. opens-other (b ∷ bs) ps p own h k))

opens_by : (os : List ℕ) (ps : List Piece) (class : Class) (text : List ℕ) → Opens os ps → OpensIf (openers_by os class text) (ps ++ piece class text ∷ [])
opens_by os ps operator [] opens = subst (λ o. OpensIf o (ps ++ piece operator [] ∷ [])) (sym (no_character os)) (opens-other os ps (piece operator []) opens refl refl)
opens_by os ps operator (c ∷ cs) opens = opens-operator os ps c cs opens
opens_by os ps class text opens = opens-other os ps (piece class text) opens refl refl

opens-through : (qs : List Piece) (os after : List ℕ) (ps : List Piece) → Opens os ps → openers_through (Some os) qs ≡ Some after → Opens after (ps ++ qs)
opens-through [] os after ps opens steps = let same : os ≡ after = cc in rw (append-nil, ← same) opens
opens-through (q ∷ qs) os after ps opens steps =
    let (mid, is) = some_before (λ o. openers_through o qs) refl (openers_by os q.class q.text) after steps in
    subst (Opens after) (append_assoc ps (q ∷ []) qs)
    (opens-through qs mid after (ps ++ q ∷ []) (subst (λ o. OpensIf o (ps ++ q ∷ [])) is (opens_by os ps q.class q.text opens)) (ap (λ o. openers_through o qs) (sym is) ∙ steps))

-- so many are open above the depth at which the pieces begin
pub opens-depth : (os : List ℕ) (ps : List Piece) (depth : ℕ) → Opens os ps → depth_through depth ps ≡ length os + depth
opens-depth os ps depth (level _ _ none within) = let is : length os ≡ 0 = ap length none in balanced_depth ps within depth ∙ omega (arith, is)
opens-depth os ps depth (inside _ _ o others outer inner a is spell out opens kind within) =
    let before = opens-depth others outer depth out in let many : length os ≡ suc (length others) = ap length is ∙ omega arith in
    ap (depth_through depth) spell ∙ depth_through-append depth outer (a ∷ inner) ∙ balanced_depth inner within (depth_after (depth_through depth outer) a)
    ∙ depth-opener (depth_through depth outer) a opens ∙ omega (arith, before, many)

-- balanced pieces in two parts: the first is balanced where it comes back to depth 0, and then the second is
pub balanced_first : (ps qs : List Piece) → IsBalanced (ps ++ qs) → depth_through 0 ps ≡ 0 → IsBalanced ps
balanced_first ps qs all deep =
    let whole = sym (openers_through-append (Some []) ps qs) ∙ balanced_openers (ps ++ qs) all [] in
    let (os, first) = some_before (λ o. openers_through o qs) refl (openers_through (Some []) ps) [] whole in
    let opens = opens-through ps [] os [] opens-none first in let many = opens-depth os ps 0 opens in
    balanced_at os ps (nil_from_length os (omega (arith, many, deep))) opens

pub balanced_second : (ps qs : List Piece) → IsBalanced (ps ++ qs) → IsBalanced ps → IsBalanced qs
balanced_second ps qs all first =
    let through = ap (λ o. openers_through o qs) (sym (balanced_openers ps first [])) ∙ sym (openers_through-append (Some []) ps qs) in
    balanced_at [] qs refl (opens-through qs [] [] [] opens-none (through ∙ balanced_openers (ps ++ qs) all []))
