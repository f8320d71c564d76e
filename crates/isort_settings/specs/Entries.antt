-- What lists of modules hold.
use Rattle.std.specs.Prelude.{ℕ, ◌==◌, Bool, not, ◌||◌, List, IsTrue}
use Rattle.std.specs.List.{list_all, list_any}
use Rattle.std.specs.Str.{byte}

-- the characters that stand for others in a pattern
abbrev pub is_wildcard : ℕ → Bool
is_wildcard c = (c == byte "*") || (c == byte "?")

-- whether texts may be the entries of a list: none of them holds such a character
unfoldable pub are_entries : List (List ℕ) → Bool
are_entries texts = list_all (λ text. not (list_any is_wildcard text)) texts

-- each list holds entries alone
abbrev pub HoldEntries : List (List (List ℕ)) → Type 0
HoldEntries lists = IsTrue (list_all are_entries lists)
