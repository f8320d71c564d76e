-- Strings of three quotes without fields that bytes hold whole. They serve the contracts of private functions.
use Rattle.std.specs.Prelude.{◌≡◌, ℕ, ◌+◌, ◌-◌, ◌≤◌, Option, None, Some, false, List, length, take, drop, slice_index}
use Rattle.py_lines.specs.declared.mode.Mode.TheVariants as opens
use Rattle.py_lines.specs.declared.scan.Scan.{Scan}
use Rattle.py_lines.specs.Private.Passing.{TellsFields, tail_of}
use Rattle.py_lines.specs.Private.Scan.{Takes, passed}

-- each scan in the text of a string of three such quotes takes so many of the bytes, and then is this
pub record TakesLong (to : Scan → ℕ → Scan) (quote : ℕ) (bytes : List ℕ) (len : ℕ) : Type 0 where
  pub within : len ≤ length bytes
  pub over : (scan : Scan) → scan.mode ≡ opens.Long quote → Takes scan bytes len (to scan len)

-- they go on to the string's end, where no piece is open
abbrev pub HasLongText : ℕ → List ℕ → Option ℕ → Type 0
HasLongText quote bytes None = Unit {0}
HasLongText quote bytes (Some len) = TakesLong passed quote bytes len

-- three quotes at this byte begin a string, after bytes from another on: it has no fields, and ends there
pub record IsLongString (bytes : List ℕ) (from at end : ℕ) : Type 0 where
  pub before : TellsFields (tail_of (take (at - from) (drop from bytes))) (Some false)
  pub len : ℕ
  pub size : at + 3 + len ≡ end
  pub text : TakesLong passed (slice_index bytes at) (drop (at + 3) bytes) len

abbrev pub HasLongString : List ℕ → ℕ → ℕ → Option ℕ → Type 0
HasLongString bytes from at None = Unit {0}
HasLongString bytes from at (Some end) = IsLongString bytes from at end
