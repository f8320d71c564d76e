-- Pieces in which nothing opens too deep: of two lists one after another, and of brackets alone.
use Rattle.py_lines.proofs.Prelude.{ℕ, List, [], ◌∷◌, ◌++◌, Piece, IsShallow}
use Rattle.py_lines.specs.Balance.{IsShallowPlain, depth_after, depth_through}

pub IsShallow-append : (d : ℕ) (ps qs : List Piece) → IsShallow d ps → IsShallow (depth_through d ps) qs → IsShallow d (ps ++ qs)
IsShallow-append d [] qs h k = k
IsShallow-append d (p ∷ ps) qs h k = (h.0, h.1, IsShallow-append (depth_after d p) ps qs h.2 k)

pub IsShallow-parts : (d : ℕ) (ps qs : List Piece) → IsShallow d (ps ++ qs) → IsShallow d ps × IsShallow (depth_through d ps) qs
IsShallow-parts d [] qs h = (tt, h)
IsShallow-parts d (p ∷ ps) qs h = let others = IsShallow-parts (depth_after d p) ps qs h.2 in ((h.0, h.1, others.0), others.1)

pub brackets_shallow : (d : ℕ) (ps : List Piece) → IsShallow d ps → IsShallowPlain d ps
brackets_shallow d [] h = tt
brackets_shallow d (p ∷ ps) h = (h.0, brackets_shallow (depth_after d p) ps h.2)
