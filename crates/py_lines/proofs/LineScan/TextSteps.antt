-- The pieces before a line of a text, and what the line begins in.
use Rattle.py_lines.proofs.Prelude.{◌≡◌, ℕ, zero, suc, ◌+◌, ◌<◌, true, false, List, [], ◌∷◌, ◌++◌, length, refl, sym, ap, ◌∙◌, subst, inl, inr, append-nil, arith, length-le-encodes, line_end, Piece, begins_marked, spelled, byte_len, AreReadBefore, EndsLine, first_mode, byte_len-append}
use Rattle.py_lines.specs.Private.Mode as modes
use Rattle.py_lines.specs.Private.LineScan.{begins_line}
use Rattle.py_lines.proofs.Pieces.PieceLists.{MayFollow, AreReadBefore-second, spelled-append}
use Rattle.py_lines.proofs.FieldMachine.Runs.{MayBegin}
use Rattle.py_lines.proofs.Lexings.LineEnds.{line_first}

pub begun_sound : (n : ℕ) → begins_line (first_mode n) ≡ true
begun_sound zero = refl
begun_sound (suc n) = refl

-- pieces that end a line, and what the next line begins in
pub data Base (n : ℕ) (base : List Piece) : Type 0 where
  bare : base ≡ [] → first_mode n ≡ modes.Start → Base n base
  lined : (body : List Piece) (last : Piece) → base ≡ body ++ last ∷ [] → last.class ≡ line_end → ((rest : List ℕ) → MayBegin base rest)
      → first_mode n ≡ modes.Free → Base n base

pub free_mode : (n : ℕ) → 0 < n → first_mode n ≡ modes.Free
free_mode zero positive = absurd (omega arith)
free_mode (suc n) positive = refl

begins_any : (body : List Piece) (last : Piece) (rest : List ℕ) → MayBegin (body ++ last ∷ []) rest
begins_any [] last rest = tt
begins_any (p ∷ ps) last rest = tt

pub base_of : (n : ℕ) (base : List Piece) (rest : List ℕ) → AreReadBefore base rest → EndsLine base → n ≡ byte_len (spelled base) → Base n base
base_of n base rest fit (inl none) size = Base.bare none (ap first_mode (size ∙ ap (λ l. byte_len (spelled l)) none))
base_of n base rest fit (inr (body, last, is, class, level)) size =
    let text = line_first last class (AreReadBefore-second body (last ∷ []) rest (subst (λ l. AreReadBefore l rest) is fit)).0 in
    let total : byte_len (spelled base) ≡ byte_len (spelled body) + byte_len (last.text ++ []) = ap (λ l. byte_len (spelled l)) is
    ∙ ap byte_len (spelled-append body (last ∷ [])) ∙ byte_len-append (spelled body) (last.text ++ []) in
    let bytes : 0 < byte_len (last.text ++ []) = omega (arith, length-le-encodes (last.text ++ []), ap length (append-nil last.text ∙ text.2)) in
    Base.lined body last is class (λ x. subst (λ l. MayBegin l x) (sym is) (begins_any body last x)) (free_mode n (omega (arith, size, total, bytes)))

-- a line after others begins with no mark
pub follows_base : (n : ℕ) (base u : List Piece) → Base n base → (first_mode n ≡ modes.Free → begins_marked u ≡ false) → MayFollow base u
follows_base n base u is unmarked = grind arith
