-- The lines of a listing.
use Rattle.std.specs.Prelude.{ℕ, Bool, List, [], ◌∷◌, ◌++◌, codes, if◌then◌else◌}
use Rattle.std.specs.Fmt.{decimal}
use Rattle.py_imports.specs.BindingValue.{BindingValue}
use Rattle.py_imports.specs.Spelled.{statement_text}

-- where a binding stands: `path:line `, and `indented `
abbrev pub place_text : List ℕ → ℕ → Bool → List ℕ
place_text path line indented = path ++ (codes ":" ++ (decimal line ++ (codes " " ++ (if indented then codes "indented " else []))))

-- the line of a binding, with its line feed
abbrev pub line_text : List ℕ → BindingValue → List ℕ
line_text path b = place_text path b.line b.indented ++ (statement_text b ++ 10 ∷ [])

-- a line for each binding
abbrev pub printed : List ℕ → List BindingValue → List ℕ
printed path [] = []
printed path (b ∷ bs) = line_text path b ++ printed path bs
