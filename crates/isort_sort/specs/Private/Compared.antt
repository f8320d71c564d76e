-- A text that is compared with pieces, which come one after another.
use Rattle.std.specs.Prelude.{◌≡◌, ℕ, List, ◌++◌, Option, None, Some}
use Rattle.std.specs.Borrow.{Bor}
use Rattle.isort_sort.specs.declared.comparison.Comparison.{Comparison}

-- what follows a text in bytes that begin with it; nothing where they don't
abbrev pub IsCutOff : List ℕ → List ℕ → Option (Bor (List ℕ)) → Type 0
IsCutOff bytes text None = (rest : List ℕ) → bytes ≡ text ++ rest → ⊥
IsCutOff bytes text (Some rest) = bytes ≡ text ++ rest.now

-- the text was compared with these pieces
abbrev pub IsCompared : List ℕ → List ℕ → Comparison → Type 0
IsCompared text pieces c = IsCutOff text pieces c.left

-- whatever text was compared, now it was compared with this piece too
abbrev pub Takes : Comparison → List ℕ → Comparison → Type 0
Takes old piece new = (text pieces : List ℕ) → IsCompared text pieces old → IsCompared text (pieces ++ piece) new
