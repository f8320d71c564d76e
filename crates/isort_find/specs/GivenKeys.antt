-- Keys that are kept with their places, as the list of them.
use Rattle.std.specs.Prelude.{◌≡◌, ℕ, zero, suc, ◌≤◌, ◌==◌, false, List, [], ◌∷◌, ◌++◌, length, if◌then◌else◌}
use Rattle.std.specs.List.{list_any}
use Rattle.isort_find.specs.Key.{Key, key_eq}
use Rattle.isort_find.specs.KeyText.{key_in}
use Rattle.isort_find.specs.declared.key.KeyText.{KeyText}

-- keys, and how many were added before each
abbrev pub Places : Type 0
Places = List (KeyText × ℕ)

-- the key that was added after so many, if there is one
abbrev pub key_after : Places → ℕ → List Key
key_after [] n = []
key_after (e ∷ es) n = if e.1 == n then key_in e.0 ∷ [] else key_after es n

-- the first n keys, in the order in which they were added
abbrev pub first_keys : Places → ℕ → List Key
first_keys es zero = []
first_keys es (suc n) = first_keys es n ++ key_after es n

-- all keys, in the order in which they were added
abbrev pub in_order : Places → List Key
in_order es = first_keys es (length es)

-- no place is as large as the number of keys, and the keys in order are the same keys
pub record ArePlaced (es : Places) : Type 0 where
  pub below : (n : ℕ) → length es ≤ n → list_any (λ e. e.1 == n) es ≡ false
  pub same : (key : Key) → list_any (λ e. key_eq key (key_in e.0)) es ≡ list_any (key_eq key) (in_order es)
