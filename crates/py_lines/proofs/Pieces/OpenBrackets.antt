-- Brackets in pairs, their depth, and the stack of open ones: balanced pieces leave it as it was.
use Rattle.py_lines.proofs.Prelude.{◌≡◌, ℕ, suc, ◌<◌, Bool, true, false, ◌==◌, Option, None, Some, List, [], ◌∷◌, ◌++◌, length, refl, sym, ap, ◌∙◌, subst, append_assoc, append-nil, add-one, arith, or_parts, both_ways, lt-ltb, Class, operator, Piece, begins, spelled}
use Rattle.py_lines.specs.Balance as balance
use Rattle.py_lines.specs.Balance.{is_opening, is_closing, closing_of, is_operator_that, is_opener, is_closer, ArePair, IsBalanced, depth_after, depth_through, EachAtDepth, OpensShallow, IsShallowPlain}
use Rattle.py_lines.specs.LogicalLine.{first_or_zero, byte_len}
use Rattle.py_lines.specs.Private.Machine.{Bracket, brackets_after, brackets_through, brackets_of}
use Rattle.py_lines.proofs.Text.CharacterTests.{none_of}

-- a closing bracket is no opening one
pub closing-not-opening : (c : ℕ) → is_closing c ≡ true → is_opening c ≡ false
unfolding is_closing is_opening
closing-not-opening c h = none_of is_opening (41 ∷ 93 ∷ 125 ∷ []) c refl h

pub closer-not-opener : (p : Piece) → is_closer p ≡ true → is_opener p ≡ false
closer-not-opener p closes = grind (arith, closing-not-opening)

-- a text that begins with an opening bracket, and one that begins with a closing one, are of one kind where their first characters are
kinds_agree : (s t : List ℕ) → begins is_opening s ≡ true → begins is_closing t ≡ true → begins (λ c. begins (λ d. d == closing_of c) t) s ≡ (first_or_zero t == closing_of (first_or_zero s))
kinds_agree s t opens closes = grind arith

operator_begins : (p : ℕ → Bool) (class : Class) (text : List ℕ) → is_operator_that p class text ≡ true → begins p text ≡ true
operator_begins p operator text h = h
operator_begins p class text h = absurd (both_ways _ refl h)

-- depth, piece by piece
pub depth-opener : (d : ℕ) (p : Piece) → is_opener p ≡ true → depth_after d p ≡ suc d
depth-opener d p h = rw (h, add-one)

pub depth-closer : (d : ℕ) (p : Piece) → is_closer p ≡ true → depth_after (suc d) p ≡ d
depth-closer d p h = rw (closer-not-opener p h, h) (omega arith)

pub depth-other : (d : ℕ) (p : Piece) → is_opener p ≡ false → is_closer p ≡ false → depth_after d p ≡ d
depth-other d p h k = rw (h, k)

pub depth_through-append : (d : ℕ) (ps qs : List Piece) → depth_through d (ps ++ qs) ≡ depth_through (depth_through d ps) qs
depth_through-append d [] qs = refl
depth_through-append d (p ∷ ps) qs = depth_through-append (depth_after d p) ps qs

-- what holds of each piece of two lists, one after another, holds of each of both
pub EachAtDepth-parts : (P : ℕ → Piece → Type 0) (d : ℕ) (ps qs : List Piece) → EachAtDepth P d (ps ++ qs) → EachAtDepth P d ps × EachAtDepth P (depth_through d ps) qs
EachAtDepth-parts P d [] qs h = (tt, h)
EachAtDepth-parts P d (p ∷ ps) qs h = let others = EachAtDepth-parts P (depth_after d p) ps qs h.1 in ((h.0, others.0), others.1)

-- a balanced list leaves the depth as it was
pub balanced_depth : (ps : List Piece) → IsBalanced ps → (d : ℕ) → depth_through d ps ≡ d
balanced_depth ps (balance.none _ is) d = ap (depth_through d) is
balanced_depth ps (balance.one _ p is other) d = let parts = or_parts (is_opener p) (is_closer p) other in cc (depth-other d p parts.0 parts.1)
balanced_depth ps (balance.pair _ inner a b is both within) d = cc (depth_through-append d (a ∷ inner) (b ∷ []), depth-opener d a both.opens, balanced_depth inner within (suc d), depth-closer d b both.closes)
balanced_depth ps (balance.both _ first second is left right) d = cc (depth_through-append d first second, balanced_depth first left d, balanced_depth second right d)

-- stacks, one list of pieces after another
pub through-append : (o : Option (List Bracket)) (done ps qs : List Piece) → brackets_through o done (ps ++ qs) ≡ brackets_through (brackets_through o done ps) (done ++ ps) qs
through-append None done ps qs = refl
through-append (Some st) done [] qs = ap (λ l. brackets_through (Some st) l qs) (sym (append-nil done))
through-append (Some st) done (p ∷ ps) qs = through-append (brackets_after st (byte_len (spelled done)) p) (done ++ p ∷ []) ps qs
    ∙ ap (λ l. brackets_through (brackets_through (brackets_after st (byte_len (spelled done)) p) (done ++ p ∷ []) ps) l qs) (append_assoc done (p ∷ []) ps)

pub opener_pushes : (st : List Bracket) (place : ℕ) (p : Piece) → is_opener p ≡ true → length st < 200 → brackets_after st place p ≡ Some (record { opener = first_or_zero p.text; place = place } ∷ st)
unfolding brackets_after
opener_pushes st place p h deep = rw (h, lt-ltb (length st) 200 deep)

pub closer_pops : (st : List Bracket) (place : ℕ) (b : Bracket) (p : Piece) → is_closer p ≡ true → first_or_zero p.text == closing_of b.opener ≡ true → brackets_after (b ∷ st) place p ≡ Some st
unfolding brackets_after
closer_pops st place b p h kind = rw (closer-not-opener p h, h, kind)

pub other_keeps : (st : List Bracket) (place : ℕ) (p : Piece) → is_opener p ≡ false → is_closer p ≡ false → brackets_after st place p ≡ Some st
unfolding brackets_after
other_keeps st place p h k = rw (h, k)

pub are_pair : (a b : Piece) → is_opener a ≡ true → is_closer b ≡ true → first_or_zero b.text == closing_of (first_or_zero a.text) ≡ true → ArePair a b
are_pair a b opens closes same =
    search (opens, closes, kinds_agree a.text b.text (operator_begins is_opening a.class a.text opens) (operator_begins is_closing b.class b.text closes) ∙ same)

pub pair_kind : (a b : Piece) → ArePair a b → first_or_zero b.text == closing_of (first_or_zero a.text) ≡ true
pair_kind a b both = sym (kinds_agree a.text b.text (operator_begins is_opening a.class a.text both.opens) (operator_begins is_closing b.class b.text both.closes)) ∙ both.kind

closed_through : (st : List Bracket) (done : List Piece) (a : Bracket) (b : Piece) → is_closer b ≡ true
    → first_or_zero b.text == closing_of a.opener ≡ true → brackets_through (Some (a ∷ st)) done (b ∷ []) ≡ Some st
closed_through st done a b closes kind = ap (λ o. brackets_through o (done ++ b ∷ []) []) (closer_pops st (byte_len (spelled done)) a b closes kind)

-- a balanced list leaves the stack as it was
pub balanced_through : (ps : List Piece) → IsBalanced ps → (st : List Bracket) (done : List Piece) → IsShallowPlain (length st) ps → brackets_through (Some st) done ps ≡ Some st
balanced_through ps (balance.none _ is) st done shallow = ap (brackets_through (Some st) done) is
balanced_through ps (balance.one _ p is other) st done shallow = let parts = or_parts (is_opener p) (is_closer p) other in cc (other_keeps st (byte_len (spelled done)) p parts.0 parts.1)
balanced_through ps (balance.pair _ inner a b is both within) st done shallow =
    let parts = EachAtDepth-parts OpensShallow (length st) (a ∷ inner) (b ∷ []) (subst (IsShallowPlain (length st)) is shallow) in
    let top : Bracket = record { opener = first_or_zero a.text; place = byte_len (spelled done) } in
    let inside = balanced_through inner within (top ∷ st) (done ++ a ∷ []) (subst (λ (n : ℕ). IsShallowPlain n inner) (depth-opener (length st) a both.opens) parts.0.1) in
    let begun = ap (λ o. brackets_through o (done ++ a ∷ []) inner) (opener_pushes st (byte_len (spelled done)) a both.opens (parts.0.0 both.opens)) ∙ inside in
    ap (brackets_through (Some st) done) is ∙ through-append (Some st) done (a ∷ inner) (b ∷ [])
    ∙ ap (λ o. brackets_through o (done ++ a ∷ inner) (b ∷ [])) begun ∙ closed_through st (done ++ a ∷ inner) top b both.closes (pair_kind a b both)
balanced_through ps (balance.both _ first second is left right) st done shallow =
    let parts = EachAtDepth-parts OpensShallow (length st) first second (subst (IsShallowPlain (length st)) is shallow) in
    let later = balanced_through second right st (done ++ first) (subst (λ (n : ℕ). IsShallowPlain n second) (balanced_depth first left (length st)) parts.1) in
    cc (through-append (Some st) done first second, balanced_through first left st done parts.0, later)

pub stack-from_balanced : (ps : List Piece) → IsBalanced ps → IsShallowPlain 0 ps → brackets_of ps ≡ Some []
stack-from_balanced ps balanced shallow = balanced_through ps balanced [] [] shallow

-- what comes to something comes from something
pub some_before : {A B : Type 0} (f : Option A → Option B) → f None ≡ None → (o : Option A) (b : B) → f o ≡ Some b → (a : A) × (o ≡ Some a)
some_before f none None b is = let stuck : None ≡ Some b = sym none ∙ is in absurd (cc)
some_before f none (Some a) b is = (a, refl)

-- the stack after one more piece
pub stack_push : (done : List Piece) (p : Piece) (st : List Bracket) → brackets_of done ≡ Some st → brackets_of (done ++ p ∷ []) ≡ brackets_after st (byte_len (spelled done)) p
stack_push done p st stack = grind (arith, through-append)

-- where the brackets after pieces are known, they are after the first of them
through_parts : (st after : List Bracket) (done ps qs : List Piece) → brackets_through (Some st) done (ps ++ qs) ≡ Some after
    → (mid : List Bracket) × (brackets_through (Some st) done ps ≡ Some mid) × (brackets_through (Some mid) (done ++ ps) qs ≡ Some after)
through_parts st after done ps qs steps =
    let whole = sym (through-append (Some st) done ps qs) ∙ steps in
    let (mid, first) = some_before (λ o. brackets_through o (done ++ ps) qs) refl (brackets_through (Some st) done ps) after whole in
    (mid, first, ap (λ o. brackets_through o (done ++ ps) qs) (sym first) ∙ whole)

-- an opening one is the innermost then
abbrev top_at : List Piece → Piece → Bracket
top_at done p = record { opener = first_or_zero p.text; place = byte_len (spelled done) }

opened_is : (st mid : List Bracket) (done : List Piece) (p : Piece) → is_opener p ≡ true → brackets_through (Some st) done (p ∷ []) ≡ Some mid
    → mid ≡ top_at done p ∷ st
unfolding brackets_after
opened_is st mid done p opens is = grind arith

some_same : (after st : List Bracket) → Some after ≡ Some st → after ≡ st
some_same after st same = cc

-- and balanced pieces leave those that were before
balanced_back : (ps : List Piece) → IsBalanced ps → (st after : List Bracket) (done : List Piece) → brackets_through (Some st) done ps ≡ Some after → after ≡ st
balanced_back ps (balance.none _ is) st after done steps = cc
balanced_back ps (balance.one _ p is other) st after done steps =
    let parts = or_parts (is_opener p) (is_closer p) other in
    cc (other_keeps st (byte_len (spelled done)) p parts.0 parts.1)
balanced_back ps (balance.pair _ inner a b is both within) st after done steps =
    let (mid, first, last) = through_parts st after done (a ∷ inner) (b ∷ []) (ap (brackets_through (Some st) done) (sym is) ∙ steps) in
    let (one, begun, more) = through_parts st mid done (a ∷ []) inner first in
    let same = balanced_back inner within one mid (done ++ a ∷ []) more ∙ opened_is st one done a both.opens begun in
    let end = closed_through st (done ++ a ∷ inner) (top_at done a) b both.closes (pair_kind a b both) in
    some_same _ _ (sym last ∙ ap (λ m. brackets_through (Some m) (done ++ a ∷ inner) (b ∷ [])) same ∙ end)
balanced_back ps (balance.both _ first second is left right) st after done steps =
    let (mid, one, two) = through_parts st after done first second (ap (brackets_through (Some st) done) (sym is) ∙ steps) in
    balanced_back second right mid after (done ++ first) two ∙ balanced_back first left st mid done one

-- the innermost open bracket is that after which balanced pieces stand
pub innermost_place : (outer inner : List Piece) (a : Piece) (b : Bracket) (bs : List Bracket) → is_opener a ≡ true → IsBalanced inner
    → brackets_of (outer ++ a ∷ inner) ≡ Some (b ∷ bs) → b.place ≡ byte_len (spelled outer)
innermost_place outer inner a b bs opens within stack =
    let (st, first, rest) = through_parts [] (b ∷ bs) [] outer (a ∷ inner) stack in
    let (mid, begun, more) = through_parts st (b ∷ bs) outer (a ∷ []) inner rest in
    let is = balanced_back inner within mid (b ∷ bs) (outer ++ a ∷ []) more ∙ opened_is st mid outer a opens begun in let top : b ≡ top_at outer a = cc in
    ap (λ (x : Bracket). x.place) top
