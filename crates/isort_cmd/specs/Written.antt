-- What a listing leaves in its writer.
use Rattle.std.specs.Prelude.{◌≡◌, ◌⊎◌, ◌<◌, ◌≤◌, List, ℕ, Option, None, Some, IfSome, ◌++◌, length, take}
use Rattle.std.specs.Io.KnownBytes.{Appends, Consumes, IsAtEnd}
use Rattle.py_lines.specs.declared.fault.Fault.{Fault}
use Rattle.py_imports.specs.BindingValue.{BindingValue}
use Rattle.isort_find.specs.Found.{IsFound}
use Rattle.isort_find.specs.Settled.{IsFoundSettled, DecidesFound}
use Rattle.isort_find.specs.declared.options.FindOptions.{FindOptions}
use Rattle.isort_sort.specs.Written.{AppendsPrefix}
use Rattle.isort_cmd.specs.Printed.{printed}
use Rattle.isort_cmd.specs.declared.error.RunError.{RunError}
use Rattle.isort_cmd.specs.declared.error.RunError.TheVariants as run

-- the lines of all imports that are found in the text with these options, up to this end, were written
pub record ListsFound (path text : List ℕ) (options : FindOptions) (end : Option Fault) (old new : Option (List ℕ)) : Type 0 where
  pub values : List BindingValue
  pub found : IsFound text options values end
  pub written : Appends old new (printed path values)

-- a prefix of the lines of all imports that are found in the text with these options was written
pub record ListsPrefix (path text : List ℕ) (options : FindOptions) (old new : Option (List ℕ)) : Type 0 where
  pub values : List BindingValue
  pub end : Option Fault
  pub found : IsFound text options values end
  pub written : AppendsPrefix old new (printed path values)

-- The bytes that a run has fed to its finder: those that it read, and of more than `max` the first `max`.
pub record AreFed (max : ℕ) (known : List ℕ) (old new : Option (List ℕ)) : Type 0 where
  pub read : List ℕ
  pub consumed : Consumes old new read
  pub first : known ≡ take max read

-- The lines of the imports in the logical lines that these bytes settle were written, and the bytes decide no fault.
pub record ListsSettled (path known : List ℕ) (options : FindOptions) (old new : Option (List ℕ)) : Type 0 where
  pub values : List BindingValue
  pub found : IsFoundSettled known options values None
  pub undecided : (fault : Fault) → ¬ (DecidesFound known options fault)
  pub written : Appends old new (printed path values)

-- The lines of all imports before this fault were written. It is the fault of these bytes, and where reading stopped
-- early, of each text that begins with them.
pub record ListsToFault (path known : List ℕ) (options : FindOptions) (fault : Fault) (left old new : Option (List ℕ)) : Type 0 where
  pub values : List BindingValue
  pub found : IsFound known options values (Some fault)
  pub stays : IsAtEnd left ⊎ ((more : List ℕ) → IsFound (known ++ more) options values (Some fault))
  pub written : Appends old new (printed path values)

-- What an error leaves of the listing of a text: all lines before a fault, and else a prefix of the lines.
abbrev pub LeavesAtError : List ℕ → List ℕ → FindOptions → RunError → Option (List ℕ) → Option (List ℕ) → Type 0
LeavesAtError path text options (run.Fault f) old new = ListsFound path text options (Some f) old new
LeavesAtError path text options run.Write old new = ListsPrefix path text options old new
LeavesAtError path text options run.Memory old new = ListsPrefix path text options old new
LeavesAtError path text options run.Read old new = ListsPrefix path text options old new
LeavesAtError path text options run.TooLong old new = ListsPrefix path text options old new
LeavesAtError path text options run.NeverEnds old new = ListsPrefix path text options old new

-- What a reader had, at most `max` bytes, was read to its end, and the lines of all imports that are found in it were written.
pub record ListsInput (path : List ℕ) (options : FindOptions) (max : ℕ) (given left old new : Option (List ℕ)) : Type 0 where
  pub lists : IfSome given (λ text. ListsFound path text options None old new)
  pub within : IfSome given (λ text. length text ≤ max)
  pub end : IsAtEnd left

-- what an error leaves of the listing of what a reader had, which is too long only beyond `max` bytes
pub record LeavesInput (path : List ℕ) (options : FindOptions) (max : ℕ) (e : RunError) (given old new : Option (List ℕ)) : Type 0 where
  pub leaves : IfSome given (λ text. LeavesAtError path text options e old new)
  pub too_long : e ≡ run.TooLong → IfSome given (λ text. max < length text)

-- of the bytes fed the lines of what they settle were written, and they decide no fault
pub record ListsUnread (path : List ℕ) (options : FindOptions) (max : ℕ) (given left old new : Option (List ℕ)) : Type 0 where
  pub known : List ℕ
  pub fed : AreFed max known given left
  pub lists : ListsSettled path known options old new

-- of the bytes fed, which have this fault, the lines before it were written
pub record ListsFaulty (path : List ℕ) (options : FindOptions) (max : ℕ) (fault : Fault)
    (given left old new : Option (List ℕ)) : Type 0 where
  pub known : List ℕ
  pub fed : AreFed max known given left
  pub lists : ListsToFault path known options fault left old new
