-- What a `Metered` holds, and what it notes of each call.
use Rattle.std.specs.Prelude.{◌≡◌, ℕ, ◌+◌, Bool, true, false, ◌==◌, ◌&&◌, ◌⊎◌, Result}
use Rattle.std.specs.Prelude.{Ok, Err, List, length, min, nat_lt, if◌then◌else◌}
use Rattle.std.specs.IoError.{error_kind}
use Rattle.std.specs.declared.io.Error.{Error}
use Rattle.std.specs.declared.io.ErrorKind.{ErrorKind}
use Rattle.std.specs.declared.io.ErrorKind.TheVariants.{Interrupted}
use Rattle.isort_sort.specs.declared.metered.Last.{Last}
use Rattle.isort_sort.specs.declared.metered.Last.TheVariants as last
use Rattle.isort_sort.specs.declared.metered.Metered.{Metered}

-- the reader or writer inside
abbrev pub inner_of : {T : Type 0} → Metered T → T
inner_of m = m.inner

-- how its last call ended
abbrev pub last_of : {T : Type 0} → Metered T → Last
last_of m = m.last

-- how many calls in a row ended in an interruption, up to 1000
abbrev pub interruptions : Last → ℕ
interruptions (last.Interrupted n) = n
interruptions _ = 0

-- whether the error is an interruption
abbrev pub is_interruption : ErrorKind → Bool
is_interruption Interrupted = true
is_interruption _ = false

-- what an error leaves: one more interruption in a row, or a failure
abbrev pub end_of_error : Last → Error → Last
end_of_error before e = if is_interruption (error_kind e) then last.Interrupted (min 1000 (interruptions before + 1)) else last.Failed

-- what a call leaves, by what it leaves where it doesn't fail
abbrev pub end_of : {A : Type 0} → Last → Last → Result A Error → Last
end_of before if_ok (Ok done) = if_ok
end_of before if_ok (Err e) = end_of_error before e

-- what a read leaves
abbrev pub end_of_read : Last → Result ℕ Error → Last
end_of_read before answer = end_of before last.Fine answer

-- what a write of these bytes leaves: one that took no byte of some is empty
abbrev pub end_of_write : Last → List ℕ → Result ℕ Error → Last
end_of_write before bytes (Ok n) = if (n == 0) && nat_lt 0 (length bytes) then last.Empty else last.Fine
end_of_write before bytes (Err e) = end_of_error before e

-- what a flush leaves
abbrev pub end_of_flush : Last → Result (Unit {0}) Error → Last
end_of_flush before answer = end_of before last.Fine answer

-- a writer that is given up: it failed, took no byte, or was interrupted 1000 times in a row
abbrev pub IsGivenUp : Last → Type 0
IsGivenUp l = (l ≡ last.Failed) ⊎ (l ≡ last.Empty) ⊎ (l ≡ last.Interrupted 1000)
