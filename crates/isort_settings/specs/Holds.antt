-- When a list holds a text.
use Rattle.std.specs.Prelude.{ℕ, Bool, List, bytes_eq}
use Rattle.std.specs.List.{list_any}

-- the list holds the text
abbrev pub holds : List (List ℕ) → List ℕ → Bool
holds texts text = list_any (λ t. bytes_eq t text) texts
