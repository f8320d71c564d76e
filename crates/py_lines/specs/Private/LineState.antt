-- What the reader inside a `Lines` and the one inside a `Scanner` have in common: where the next line begins, what the
-- scan knows of that line, and the text's fault.
use Rattle.std.specs.Prelude.{◌≡◌, ℕ, zero, suc, ◌+◌, ◌<◌, ◌≤◌, None, Some, Result, Ok, Err, List, [], ◌∷◌, ◌++◌, length, take, drop, encode_utf8_all}
use Rattle.py_lines.specs.Piece.{Piece, spelled}
use Rattle.py_lines.specs.LogicalLine.{LogicalLine, cut, end_len_of, line_ends, line_of}
use Rattle.py_lines.specs.Given.{AreFirstLines}
use Rattle.py_lines.specs.Lexed.{IsLexed}
use Rattle.py_lines.specs.Private.LineScan.{HasBegun, ScansIn}
use Rattle.py_lines.specs.Private.LineTokens.{AreLineText}
use Rattle.py_lines.specs.Private.Outline as outlines
pub use Rattle.py_lines.specs.Private.LineTokens.{HoldsTokens, IsLineAfter, IsLineText}
use Rattle.py_lines.specs.declared.fault.Fault.{Fault}
use Rattle.py_lines.specs.declared.fault.FaultKind.{FaultKind}
use Rattle.py_lines.specs.declared.fault.LexError.{LexError}
use Rattle.py_lines.specs.declared.fault.LexError.TheVariants as lex
use Rattle.py_lines.specs.declared.line_state.LineState.{LineState}
use Rattle.py_lines.specs.Private.Machine.{Mode}
use Rattle.py_lines.specs.Private.Mode as modes
use Rattle.py_lines.specs.declared.scan.Scan.{Scan}
use Rattle.py_lines.specs.declared.scan.Stop.TheVariants as stops

-- what is open where a line begins: a mark may stand at the text's start
abbrev pub first_mode : ℕ → Mode
first_mode zero = modes.Start
first_mode (suc n) = modes.Free

-- after lines of so many bytes: the next one begins on this line
abbrev pub passed : LineState → ℕ → ℕ → LineState
passed s len line = record s { place = s.place + len; line = line }

-- the scan after it was lent: where it stopped in its line is as it was
abbrev pub lent : Scan → Scan → Scan
lent old new = record new { stop = old.stop }

-- with the tokens of another state, for which the scan was lent
abbrev pub with_tokens : LineState → LineState → LineState
with_tokens old new = record old { tokens = new.tokens; scan = lent old.scan new.scan }

-- the logical line whose tokens were read: this text at this byte and on this line, with so many bytes of line end
abbrev pub read_line : LineState → List ℕ → ℕ → ℕ → ℕ → LogicalLine
read_line s text offset line end_len = outlines.with_tokens (outlines.outline_at text offset line end_len) s.tokens.items

-- the scan and the tokens alone have changed
abbrev pub reread : LineState → LineState → LineState
reread old new = record old { scan = new.scan; tokens = new.tokens }

-- the scan alone has changed
abbrev pub rescanned : LineState → LineState → LineState
rescanned old new = record old { scan = new.scan }

-- the scan of the next line is begun anew; the tokens may be those of no line
pub record BeginsAnew (old new : LineState) : Type 0 where
  pub same : new ≡ record old { scan = new.scan; tokens = new.tokens }
  pub begun : HasBegun (first_mode old.place) new.scan

-- the next line begins at this byte, on this line, and nothing of it is read
pub record BeginsAt (place line : ℕ) (s : LineState) : Type 0 where
  pub place_is : s.place ≡ place
  pub line_is : s.line ≡ line
  pub no_fault : s.fault ≡ None
  pub begun : HasBegun (first_mode place) s.scan

-- a fault so many bytes after the lines that were read: it stands after these bytes
pub record IsFaultAfter (old : LineState) (kind : FaultKind) (offset : ℕ) (bytes : List ℕ) (fault : Fault) : Type 0 where
  pub is : fault.kind ≡ kind
  pub place : fault.offset ≡ old.place + offset
  pub line : (prefix : List ℕ) → encode_utf8_all prefix ≡ bytes → fault.line ≡ old.line + line_ends prefix

-- the text has this fault from now on
pub record KeepsFault (old : LineState) (kind : FaultKind) (offset : ℕ) (bytes : List ℕ)
    (error : LexError) (new : LineState) : Type 0 where
  pub fault : Fault
  pub error_is : error ≡ lex.Fault fault
  pub at : IsFaultAfter old kind offset bytes fault
  pub same : new ≡ record old { fault = Some fault }

-- so many of these bytes are a logical line, which has these pieces, and so many bytes of line end
pub record BeginWithLine (bytes : List ℕ) (stop end_len : ℕ) : Type 0 where
  pub pieces : List Piece
  pub text : AreLineText (take stop bytes) pieces
  pub whole : cut 0 pieces ≡ pieces ∷ []
  pub ends : end_len ≡ end_len_of pieces
  pub some : 0 < stop
  pub within : stop ≤ length bytes

-- this holds of each text that ends with these bytes after its first lines, which reach to this place, and of these lines
abbrev pub WhereLeft : ℕ → ℕ → List ℕ → (List ℕ → List LogicalLine → Type 0) → Type 0
WhereLeft place line bytes holds = (text : List ℕ) (lines : List LogicalLine) → AreFirstLines text place line lines → bytes ≡ drop place text → holds text lines

-- so many of the bytes that a text ends with are its next line
pub record HasNextLine (place line : ℕ) (bytes : List ℕ) (stop end_len : ℕ) : Type 0 where
  pub is : BeginWithLine bytes stop end_len
  pub next : WhereLeft place line bytes (λ text lines.
      AreFirstLines text (place + stop) (line + line_ends (spelled is.pieces)) (lines ++ line_of place line is.pieces ∷ []))

-- or the text has this fault there, and it is kept
pub record MeetsFault (old : LineState) (bytes : List ℕ) (fault : Fault) (new : LineState) : Type 0 where
  pub same : new ≡ record (reread old new) { fault = Some fault }
  pub lexed : WhereLeft old.place old.line bytes (λ text lines. IsLexed text lines (Some fault))

-- the line with which these bytes begin was read, with its tokens: so many of its bytes are its line end, and the line after it is this one
pub record ReadsLine (s : LineState) (bytes : List ℕ) (end_len after : ℕ) (new : LineState) : Type 0 where
  pub scans : ScansIn (first_mode s.place) bytes new.scan (stops.LineEnd end_len)
  pub tokens : HoldsTokens (take new.scan.stop bytes) end_len s.line new.tokens.items
  pub after_is : IsLineAfter s.line (take new.scan.stop bytes) end_len after

-- what a call that scans this line answers and leaves
abbrev pub ScansLine : LineState → List ℕ → Result ℕ LexError → LineState → Type 0
ScansLine old bytes (Ok end_len) new = (new ≡ rescanned old new) × HasNextLine old.place old.line bytes new.scan.stop end_len
ScansLine old bytes (Err (LexError.Fault f)) new = MeetsFault old bytes f new
ScansLine old bytes (Err LexError.Memory) new = ⊥

-- this line was scanned and read, with its tokens
pub record HasReadNext (old : LineState) (bytes : List ℕ) (end_len after : ℕ) (new : LineState) : Type 0 where
  pub same : new ≡ reread old new
  pub is : HasNextLine old.place old.line bytes new.scan.stop end_len
  pub tokens : HoldsTokens (take new.scan.stop bytes) end_len old.line new.tokens.items
  pub after_is : IsLineAfter old.line (take new.scan.stop bytes) end_len after

-- what a call that reads this line answers and leaves
abbrev pub GivesNext : LineState → List ℕ → Result (ℕ × ℕ) LexError → LineState → Type 0
GivesNext old bytes (Ok read) new = HasReadNext old bytes read.0 read.1 new
GivesNext old bytes (Err (LexError.Fault f)) new = MeetsFault old bytes f new
GivesNext old bytes (Err LexError.Memory) new = new ≡ reread old new
