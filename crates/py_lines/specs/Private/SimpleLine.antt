-- Simple logical lines, which are read in one pass.
use Rattle.std.specs.Prelude.{ℕ, List, take}
use Rattle.py_lines.specs.declared.token.Token.{Token}
use Rattle.py_lines.specs.declared.scan.Scan.{Scan}
use Rattle.py_lines.specs.Private.LineTokens.{HoldsTokens, IsLineAfter}
pub use Rattle.py_lines.specs.Private.LineTokens.{ReadsUpTo}
use Rattle.py_lines.specs.Private.Passing.{EndsAfter}
pub use Rattle.py_lines.specs.Private.Passing.{PassesPiece}
pub use Rattle.std.specs.Option.{IfSome}
pub use Rattle.py_lines.specs.Character.{is_quote}
pub use Rattle.py_lines.specs.Private.Marks.{FindsNext}
pub use Rattle.py_lines.specs.Private.Run.{IsShortStringAt}
pub use Rattle.py_lines.specs.Private.Scan.{opened_at}
pub use Rattle.py_lines.specs.declared.mode.Mode.TheVariants.{Free}

-- a line was read, which ends with so many bytes of line end where the scan stands, and the line after it is this one
pub record ReadsSimpleLine (bytes : List ℕ) (old : Scan) (line end_len after : ℕ) (new : Scan) (t : List Token) : Type 0 where
  pub before : ℕ
  pub ends : EndsAfter old bytes before end_len new
  pub tokens : HoldsTokens (take new.stop bytes) end_len line t
  pub lines : IsLineAfter line (take new.stop bytes) end_len after
