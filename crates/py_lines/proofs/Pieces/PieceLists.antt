-- Lists of pieces one after another.
use Rattle.py_lines.proofs.Prelude.{◌≡◌, ℕ, false, List, [], ◌∷◌, ◌++◌, refl, sym, ap, ◌∙◌, subst, append_assoc, append-nil, arith, piece}
use Rattle.py_lines.specs.Piece.{Class, Piece, is_mark_class, begins_marked, spelled}
use Rattle.py_lines.specs.PieceGrammar.{Grammar, InClassIn, MayPrecedeIn, AreReadIn, joined}
use Rattle.py_lines.specs.Fields.{fielded, AreReadBefore}

pub spelled-append : (ps qs : List Piece) → spelled (ps ++ qs) ≡ spelled ps ++ spelled qs
spelled-append [] qs = refl
spelled-append (p ∷ ps) qs = ap (λ t. p.text ++ t) (spelled-append ps qs) ∙ sym (append_assoc p.text (spelled ps) (spelled qs))

-- no mark stands after a piece: whether the pieces are none, or the next one is no mark
abbrev pub MayFollow : List Piece → List Piece → Type 0
MayFollow [] qs = Unit {0}
MayFollow (p ∷ ps) qs = begins_marked qs ≡ false

begins_marked-append : (ps qs : List Piece) → begins_marked ps ≡ false → begins_marked qs ≡ false → begins_marked (ps ++ qs) ≡ false
begins_marked-append ps qs first second = grind (arith, first, second)

-- pieces that are read before others, and these before the rest, by any grammar of strings
pub AreReadIn-append : (grammar : Grammar) (ps qs : List Piece) (rest : List ℕ) → AreReadIn grammar ps (spelled qs ++ rest) → AreReadIn grammar qs rest → MayFollow ps qs → AreReadIn grammar (ps ++ qs) rest
AreReadIn-append grammar [] qs rest first second follows = second
AreReadIn-append grammar (p ∷ ps) qs rest first second follows = (
  first.0,
  subst (MayPrecedeIn grammar p.class p.text) (sym (append_assoc (spelled ps) (spelled qs) rest) ∙ ap (λ t. t ++ rest) (sym (spelled-append ps qs))) first.1,
  begins_marked-append ps qs first.2 follows,
  AreReadIn-append grammar ps qs rest first.3 second (later ps follows),
) where
  later : (os : List Piece) → begins_marked qs ≡ false → MayFollow os qs
  later [] h = tt
  later (o ∷ os) h = h

-- the second part of pieces that are read, by any grammar of strings
pub AreReadIn-second : (grammar : Grammar) (ps qs : List Piece) (rest : List ℕ) → AreReadIn grammar (ps ++ qs) rest → AreReadIn grammar qs rest
AreReadIn-second grammar [] qs rest fit = fit
AreReadIn-second grammar (p ∷ ps) qs rest fit = AreReadIn-second grammar ps qs rest fit.3

pub AreReadBefore-second : (ps qs : List Piece) (rest : List ℕ) → AreReadBefore (ps ++ qs) rest → AreReadBefore qs rest
AreReadBefore-second ps qs rest fit = AreReadIn-second fielded ps qs rest fit

-- one more piece
pub AreReadIn-push : (grammar : Grammar) (ps : List Piece) (class : Class) (text rest : List ℕ) → AreReadIn grammar ps (text ++ rest) → InClassIn grammar class text → MayPrecedeIn grammar class text rest → MayFollow ps (piece class text ∷ []) → AreReadIn grammar (ps ++ piece class text ∷ []) rest
AreReadIn-push grammar ps class text rest fit is before follows =
    AreReadIn-append grammar ps (piece class text ∷ []) rest (subst (AreReadIn grammar ps) (ap (λ t. t ++ rest) (sym (append-nil text))) fit) (is, before, refl, tt) follows

pub spelled-push : (ps : List Piece) (class : Class) (text : List ℕ) → spelled (ps ++ piece class text ∷ []) ≡ spelled ps ++ text
spelled-push ps class text = spelled-append ps (piece class text ∷ []) ∙ ap (λ t. spelled ps ++ t) (append-nil text)

-- a piece that is no mark follows any pieces
pub follows_any : (ps : List Piece) (class : Class) (text : List ℕ) → is_mark_class class ≡ false → MayFollow ps (piece class text ∷ [])
follows_any ps class text h = grind (arith, h)

pub joined-append : (xs ys : List (List ℕ)) → joined (xs ++ ys) ≡ joined xs ++ joined ys
joined-append [] ys = refl
joined-append (x ∷ xs) ys = ap (λ t. x ++ t) (joined-append xs ys) ∙ sym (append_assoc x (joined xs) (joined ys))

-- the first part of pieces that are read
pub AreReadIn-first : (grammar : Grammar) (ps qs : List Piece) (rest : List ℕ) → AreReadIn grammar (ps ++ qs) rest → AreReadIn grammar ps (spelled qs ++ rest)
AreReadIn-first grammar [] qs rest fit = tt
AreReadIn-first grammar (p ∷ ps) qs rest fit = (
  fit.0,
  subst (MayPrecedeIn grammar p.class p.text) (ap (λ t. t ++ rest) (spelled-append ps qs) ∙ append_assoc (spelled ps) (spelled qs) rest) fit.1,
  marked-first ps qs fit.2,
  AreReadIn-first grammar ps qs rest fit.3,
) where
  marked-first : (os rs : List Piece) → begins_marked (os ++ rs) ≡ false → begins_marked os ≡ false
  marked-first [] rs h = refl
  marked-first (o ∷ os) rs h = h

pub AreReadBefore-first : (ps qs : List Piece) (rest : List ℕ) → AreReadBefore (ps ++ qs) rest → AreReadBefore ps (spelled qs ++ rest)
AreReadBefore-first ps qs rest fit = AreReadIn-first fielded ps qs rest fit
