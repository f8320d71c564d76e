-- What a run says of the text that its reader had.
use Rattle.std.specs.Prelude.{◌≡◌, ◌<◌, ◌≤◌, ⊤, ℕ, List, Option, IfSome, length}
use Rattle.std.specs.Io.KnownBytes.{IsAtEnd}
use Rattle.isort_cmd.specs.declared.error.RunError.{RunError}
use Rattle.isort_cmd.specs.declared.error.RunError.TheVariants as run

-- The text is all that a reader had, at most `max` bytes, and the reader is at its end.
pub record IsReadWhole (max : ℕ) (text : List ℕ) (given left : Option (List ℕ)) : Type 0 where
  pub whole : IfSome given (λ all. all ≡ text)
  pub within : length text ≤ max
  pub end : IsAtEnd left

-- what an error says of how long a reader's text is: more than `max` bytes where it is too long, and at most that many where
-- its fault is told
abbrev pub TellsLength : ℕ → RunError → Option (List ℕ) → Type 0
TellsLength max run.TooLong given = IfSome given (λ text. max < length text)
TellsLength max (run.Fault f) given = IfSome given (λ text. length text ≤ max)
TellsLength max _ given = ⊤
