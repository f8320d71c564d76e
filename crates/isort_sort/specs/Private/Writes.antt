-- What the program writes into a text.
use Rattle.std.specs.Prelude.{◌≡◌, ℕ, List, ◌++◌, String, string_bytes}
use Rattle.std.specs.declared.alloc.Global.{Global}

-- these bytes were put after a text
abbrev pub Writes : String Global → String Global → List ℕ → Type 0
Writes old new bytes = string_bytes new ≡ string_bytes old ++ bytes
