-- What the limits of a key that is a whole number mean.
use Rattle.std.specs.Prelude.{ℕ, ℤ, ◌≤◌, ◌≤ℤ◌}
use Rattle.isort_settings.specs.declared.limits.Limits.{Limits}

-- the number is within the limits
abbrev pub IsWithin : Limits ℕ → ℕ → Type 0
IsWithin limits n = (limits.least ≤ n) × (n ≤ limits.most)

-- the number, of either sign, is within the limits
abbrev pub IsWithinSigned : Limits ℤ → ℤ → Type 0
IsWithinSigned limits z = (limits.least ≤ℤ z) × (z ≤ℤ limits.most)
