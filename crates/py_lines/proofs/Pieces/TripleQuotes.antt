-- Three quotes in a row, in items one after another.
use Rattle.py_lines.proofs.Prelude.{◌≡◌, ℕ, Bool, false, ◌==◌, List, [], ◌∷◌, ◌++◌, refl, arith, or_parts, or_from}
use Rattle.py_lines.specs.PieceGrammar.{is_bare, begins_triple, has_triple}

abbrev bare : ℕ → List ℕ → Bool
bare q item = is_bare (λ d. d == q) item

begins-left : (q : ℕ) (x : List ℕ) (xs ys : List (List ℕ)) → begins_triple q (x ∷ (xs ++ ys)) ≡ false → begins_triple q (x ∷ xs) ≡ false
begins-left q x xs ys h = grind arith

pub triple-left : (q : ℕ) (xs ys : List (List ℕ)) → has_triple q (xs ++ ys) ≡ false → has_triple q xs ≡ false
triple-left q [] ys h = refl
triple-left q (x ∷ xs) ys h =
    let parts = or_parts (begins_triple q (x ∷ (xs ++ ys))) (has_triple q (xs ++ ys)) h in
    or_from _ _ (begins-left q x xs ys parts.0) (triple-left q xs ys parts.1)

begins-other : (q : ℕ) (i : List ℕ) (ys : List (List ℕ)) → bare q i ≡ false → begins_triple q (i ∷ ys) ≡ false
begins-other q i ys h = grind arith

begins-with_other : (q : ℕ) (x : List ℕ) (xs : List (List ℕ)) (i : List ℕ) (ys : List (List ℕ)) → bare q i ≡ false → begins_triple q (x ∷ xs) ≡ false → begins_triple q (x ∷ (xs ++ i ∷ ys)) ≡ false
begins-with_other q x xs i ys h k = grind arith

-- an item that is no quote parts the quotes before it from those after it
pub triple-other : (q : ℕ) (xs : List (List ℕ)) (i : List ℕ) (ys : List (List ℕ)) → bare q i ≡ false → has_triple q xs ≡ false → has_triple q ys ≡ false → has_triple q (xs ++ i ∷ ys) ≡ false
triple-other q [] i ys h first second = or_from _ _ (begins-other q i ys h) second
triple-other q (x ∷ xs) i ys h first second =
    let parts = or_parts (begins_triple q (x ∷ xs)) (has_triple q xs) first in
    or_from _ _ (begins-with_other q x xs i ys h parts.0) (triple-other q xs i ys h parts.1 second)
