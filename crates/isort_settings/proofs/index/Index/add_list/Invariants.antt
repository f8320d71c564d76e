-- The index has what it had, and the names so far.
use Rattle.std.proofs.Common.{◌≡◌, ℕ, List, Some, None, if◌then◌else◌, map, take, string_bytes}
use Rattle.std.specs.HashMap.{get_by_text}
use Rattle.std.specs.Option.{option_or}
use Rattle.isort_settings.specs.Holds.{holds}
use Rattle.isort_settings.proofs.index.Index.add_list.Given as goal

abbrev pub invariant-loop-name : goal.invariant-loop-name
invariant-loop-name l =
    (text : List ℕ) → get_by_text l.self.places text
    ≡ option_or (get_by_text l.initial.self.places text) (if holds (map string_bytes (take l.name-index l.list)) text then Some l.place else None)
