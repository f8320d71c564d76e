-- What the reader inside a `Lines` does: it reads the next logical line, with its tokens or without.
use Rattle.std.specs.Prelude.{◌≡◌, ℕ, Option, None, Some, Result, Ok, Err, List, drop, take}
use Rattle.py_lines.specs.LogicalLine.{LogicalLine}
use Rattle.py_lines.specs.Token.{EachLiesIn}
use Rattle.py_lines.specs.Reader.{Ends, Fails, PassesLine, Reader, ReaderRunsOut}
pub use Rattle.py_lines.specs.Reader.View.{reader_of}
pub use Rattle.py_lines.specs.Lines.{ReadsNextLine}
use Rattle.py_lines.specs.Outline.{IsOutlineOf}
pub use Rattle.py_lines.specs.Outline.{IsLine}
pub use Rattle.py_lines.specs.UnitLine.{outline_in}
use Rattle.py_lines.specs.Private.Outline.{outline_at, with_tokens}
use Rattle.py_lines.specs.Private.LineState.{HasNextLine}
use Rattle.py_lines.specs.declared.fault.LexError.{LexError}
use Rattle.py_lines.specs.declared.token.Token.{Token}
use Rattle.py_lines.specs.declared.unit.Line as given

-- so many bytes of the text are the next line, and so many of them its line end
abbrev pub HasNextOf : Reader → ℕ → ℕ → Type 0
HasNextOf r len end_len = HasNextLine r.place r.line (drop r.place r.text) len end_len

-- the line is the outline of that one
abbrev pub IsOutlineNext : Reader → given.Line → ℕ → ℕ → Type 0
IsOutlineNext r l len end_len = outline_in l ≡ outline_at (take len (drop r.place r.text)) r.place r.line end_len

-- these are the tokens of the line
abbrev pub HasTokens : given.Line → List Token → Type 0
HasTokens l tokens = (line : LogicalLine) → IsOutlineOf (outline_in l) line → tokens ≡ line.tokens

-- what a call that reads the next line answers and leaves, with these tokens
abbrev pub Advances : Reader → Result (Option given.Line) LexError → Reader → List Token → Type 0
Advances old (Ok (Some l)) new tokens = PassesLine old (with_tokens (outline_in l) tokens) new × EachLiesIn l.text.now tokens
Advances old (Ok None) new tokens = Ends old new
Advances old (Err (LexError.Fault f)) new tokens = Fails old f new
Advances old (Err LexError.Memory) new tokens = ReaderRunsOut old new
