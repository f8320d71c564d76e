-- Logical lines that bytes begin with, which are passed over.
use Rattle.std.specs.Prelude.{◌≡◌, ℕ, ◌<◌, ◌≤◌, true, List, [], ◌∷◌, ◌++◌, length, take, drop, encode_utf8_all}
use Rattle.std.specs.Str.{all_scalars}
use Rattle.py_lines.specs.Private.Mode as modes
use Rattle.py_lines.specs.Private.LineScan.{EndsWhole, IsLineBefore}
use Rattle.py_lines.specs.declared.scan.Scan.{Scan}

-- the characters before these bytes are a logical line after a text's first, with its line end
pub record IsWholeLine (line after : List ℕ) : Type 0 where
  pub scalars : all_scalars line ≡ true
  pub scan : Scan
  pub len : ℕ
  pub is : IsLineBefore modes.Free scan line len
  pub whole : EndsWhole line after

-- characters that are a line come before others that are lines, and so are these together
pub record BeginsWithLine (rest : List ℕ → Type 0) (line read after : List ℕ) : Type 0 where
  pub later : List ℕ
  pub some : 0 < length line
  pub spell : read ≡ line ++ later
  pub whole : IsWholeLine line (encode_utf8_all later ++ after)
  pub lines : rest later

-- the characters before these bytes are these lines, one after another
abbrev pub AreWholeLines : List (List ℕ) → List ℕ → List ℕ → Type 0
AreWholeLines [] read after = read ≡ []
AreWholeLines (line ∷ lines) read after = BeginsWithLine (λ later. AreWholeLines lines later after) line read after

-- lines of so many bytes stand at their beginning
pub record BeginWithLines (bytes : List ℕ) (len : ℕ) : Type 0 where
  pub within : len ≤ length bytes
  pub read : List ℕ
  pub spell : encode_utf8_all read ≡ take len bytes
  pub texts : List (List ℕ)
  pub whole : AreWholeLines texts read (drop len bytes)
