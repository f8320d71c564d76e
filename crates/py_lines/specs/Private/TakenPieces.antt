-- Pieces and items of a line that were taken from bytes, of which the first were passed.
use Rattle.std.specs.Prelude.{◌≡◌, ℕ, ◌+◌, ◌-◌, ◌<◌, ◌≤◌, ◌⊎◌, true, false, Option, None, Some, List, length, drop, slice_index}
use Rattle.py_lines.specs.declared.class.Class.TheVariants as class
use Rattle.py_lines.specs.declared.scan.Scan.{Scan}
use Rattle.py_lines.specs.declared.scan.Stop.{Stop}
pub use Rattle.py_lines.specs.Private.LineScan.{Reached, ReachedInSomeLine, ScansIn, WhereverReached}
use Rattle.py_lines.specs.Private.Marks.{is_of_class}
use Rattle.py_lines.specs.Private.Passing.{EndsAfter}
use Rattle.py_lines.specs.Private.Run.{is_ascii_word}
use Rattle.py_lines.specs.Private.Scan.{Takes}
pub use Rattle.py_lines.specs.Private.Scan.{is_in_code, opened_at}
pub use Rattle.py_lines.specs.LogicalLine.{byte_len, line_ends}
pub use Rattle.py_lines.specs.Piece.{Piece, string}
pub use Rattle.py_lines.specs.Private.LineTokens.{BeginWithPiece, BeginWithString}
pub use Rattle.py_lines.specs.Private.WholeLines.{BeginWithLines}
pub use Rattle.py_lines.specs.declared.mode.Mode.TheVariants.{Free}

-- so many bytes go up to an operator that is no bracket, and with it; or none
abbrev pub IsOperatorEnd : List ℕ → ℕ → Type 0
IsOperatorEnd plain len = (len ≤ length plain) × ((len ≡ 0) ⊎ (is_of_class class.Operator (slice_index plain (len - 1)) ≡ true))

-- the bytes from there on are those of a word, before which none stands; or there are none
pub record IsWordStart (plain : List ℕ) (len : ℕ) : Type 0 where
  pub within : len ≤ length plain
  pub each : (i : ℕ) → len ≤ i → i < length plain → is_ascii_word (slice_index plain i) ≡ true
  pub apart : (len ≡ 0) ⊎ (is_ascii_word (slice_index plain (len - 1)) ≡ false)

-- the scan has come over bytes, from one of them to another
pub record TakesOn (bytes : List ℕ) (old : Scan) (from : ℕ) (new : Scan) (to : ℕ) : Type 0 where
  pub further : from ≤ to
  pub within : to ≤ length bytes
  pub takes : Takes old (drop from bytes) (to - from) new

-- pieces were taken, with a line end of so many bytes after them or without one
abbrev pub TakesPieces : List ℕ → Scan → Option ℕ → Scan → Type 0
TakesPieces bytes old None new = (len : ℕ) × TakesOn bytes old 0 new len × (new.stop ≡ old.stop + len)
TakesPieces bytes old (Some len) new = (before : ℕ) × EndsAfter old bytes before len new

-- items were taken, and the scan has come to code outside fields
pub record ComesToCode (bytes : List ℕ) (old new : Scan) : Type 0 where
  pub code : is_in_code new ≡ true
  pub len : ℕ
  pub some : 0 < len
  pub within : len ≤ length bytes
  pub stop : new.stop ≡ old.stop + len
  pub reached : WhereverReached old bytes (λ m whole. Reached m whole new (drop len bytes))

-- or it has stopped so
pub record StopsSo (bytes : List ℕ) (old : Scan) (stop : Stop) (new : Scan) : Type 0 where
  pub further : old.stop ≤ new.stop
  pub scans : WhereverReached old bytes (λ m whole. ScansIn m whole new stop)

abbrev pub TakesItems : List ℕ → Scan → Option Stop → Scan → Type 0
TakesItems bytes old None new = ComesToCode bytes old new
TakesItems bytes old (Some stop) new = StopsSo bytes old stop new
