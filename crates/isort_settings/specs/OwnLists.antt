-- The lists of own sections as their bytes, and what an index of them says.
use Rattle.std.specs.Prelude.{◌≡◌, ℕ, List, map, string_bytes, String, Vec}
use Rattle.std.specs.declared.alloc.Global.{Global}
use Rattle.std.specs.HashMap.{HashMap, get_by_text}
use Rattle.std.specs.List.{position_from}
use Rattle.isort_settings.specs.Holds.{holds}

-- the lists, each module as its bytes
abbrev pub modules_of_lists : List (Vec (String Global) Global) → List (List (List ℕ))
modules_of_lists lists = map (λ list. map string_bytes list.items) lists

-- the index gives for each module the place of the first list that holds it
abbrev pub IsIndexOf : {S : Type 0} → List (List (List ℕ)) → HashMap (String Global) ℕ S → Type 0
IsIndexOf lists index = (text : List ℕ) → get_by_text index text ≡ position_from (λ list. holds list text) 0 lists
