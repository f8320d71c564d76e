-- What the scanner inside a `Scanner` holds: the text since the line that was released last, and how far it was scanned.
use Rattle.std.specs.Prelude.{◌≡◌, ℕ, ◌+◌, ◌-◌, ◌<◌, ◌≤◌, ◌^◌, ◌⊎◌, Bool, true, Option, None, Some, Result, Ok, Err, List, [], ◌∷◌, ◌++◌, length, take, drop, encode_utf8_all}
use Rattle.std.specs.Str.{all_scalars}
use Rattle.py_lines.specs.Piece.{Piece, spelled}
use Rattle.py_lines.specs.LogicalLine.{byte_len, cut, end_len_of, line_ends, line_of}
pub use Rattle.py_lines.specs.LogicalLine.{LogicalLine}
use Rattle.py_lines.specs.Lexed.{IsLexed}
use Rattle.py_lines.specs.Settled.{IsHopeless, Decides}
pub use Rattle.py_lines.specs.Given.{AreFirstLines}
use Rattle.py_lines.specs.ScannerState.{ScannerState, EndsExactly, Feeds, GoesOnWith, StandsAtLine, TakesBytes}
pub use Rattle.py_lines.specs.ScannerState.View.{line_of_feed, ready_of, scanning_of}
use Rattle.py_lines.specs.Private.LineScan.{Reached, ScansIn}
use Rattle.py_lines.specs.Private.LineState.{BeginsAnew, first_mode}
use Rattle.py_lines.specs.Private.LineTokens.{AreLineText}
pub use Rattle.py_lines.specs.declared.line_state.LineState.{LineState}
pub use Rattle.py_lines.specs.declared.scan.LineFault.{LineFault}
pub use Rattle.py_lines.specs.Private.Machine.{Mode}
pub use Rattle.py_lines.specs.declared.fault.Fault.{Fault}
pub use Rattle.py_lines.specs.declared.fault.FaultKind.{FaultKind}
pub use Rattle.py_lines.specs.declared.fault.LexError.{LexError}
pub use Rattle.py_lines.specs.declared.scan.Scan.{Scan}
pub use Rattle.py_lines.specs.declared.scan.Stop.{Stop}
pub use Rattle.py_lines.specs.declared.feed.Feed.{Feed}
pub use Rattle.py_lines.specs.ScannerState.View.{scanning_of}

-- so many bytes are held, with which these begin, and a line begins before them or after them
pub record StandsBefore (f : Feed) (bytes : List ℕ) (held : ℕ) : Type 0 where
  pub size : held ≡ length f.held.items
  pub stands : StandsAtLine (scanning_of f)
  pub began : take held bytes ≡ f.held.items

-- these bytes are held, from the same place on, and this fault is known
pub record HoldsAt (at number : ℕ) (over : Bool) (items : List ℕ) (known : Option Fault) (f : Feed) : Type 0 where
  pub held : f.held.items ≡ items
  pub place : f.state.place ≡ at
  pub line : f.state.line ≡ number
  pub ended : f.ended ≡ over
  pub fault : f.state.fault ≡ known

abbrev pub Holds : Feed → List ℕ → Option Fault → Feed → Type 0
Holds old items fault new = HoldsAt old.state.place old.state.line old.ended items fault new

-- so many bytes more can be held, and no place and no line leaves its integer type
pub record HasRoomAt (place line : ℕ) (held : List ℕ) (more : ℕ) : Type 0 where
  pub fits : place + length held + more ≤ 2 ^ 62
  pub few_lines : line ≤ place + 1

abbrev pub HasRoom : Feed → ℕ → Type 0
HasRoom f more = HasRoomAt f.state.place f.state.line f.held.items more

-- what is held begins with characters of a line that is open, and then come these bytes
abbrev pub IsOpen : Feed → List ℕ → Type 0
IsOpen f rest = Reached (first_mode f.state.place) f.held.items f.state.scan rest

-- a line is open in what is held
abbrev pub IsHeldOpen : Feed → Type 0
IsHeldOpen f = (rest : List ℕ) × IsOpen f rest

-- where the scan of what is held has stopped
abbrev pub StopsHeld : Feed → Stop → Type 0
StopsHeld f stop = ScansIn (first_mode f.state.place) f.held.items f.state.scan stop

-- all that is held was scanned, except what doesn't tell yet what it is, or up to a line's end
abbrev pub IsScanned : Feed → Option ℕ → Type 0
IsScanned f None = (s : StopsHeld f Stop.TextEnd) × ¬ (IsHopeless s.rest)
IsScanned f (Some end_len) = StopsHeld f (Stop.LineEnd end_len)

-- no line is ready: so many bytes stay held, and their scan is begun anew
pub record DropsLine (old : Feed) (before : ℕ) (new : Feed) : Type 0 where
  pub same : new ≡ record old { held = new.held; state = new.state; ready = None }
  pub held : new.held.items ≡ take before old.held.items
  pub begins : BeginsAnew old.state new.state

-- this holds of each text that goes on with these bytes after lines that reach to this place
abbrev pub WhereHeld : ℕ → ℕ → List ℕ → (List ℕ → List LogicalLine → Type 0) → Type 0
WhereHeld place line items holds =
    (text : List ℕ) (lines : List LogicalLine) → AreFirstLines text place line lines → GoesOnWith text place items → holds text lines

-- a fault that so many bytes after the lines given decide, and that the text has after these lines
pub record IsDecidedAt (text : List ℕ) (place : ℕ) (lines : List LogicalLine) (most : ℕ) (fault : Fault) : Type 0 where
  pub n : ℕ
  pub within : n ≤ most
  pub decided : Decides (take (place + n) text) fault
  pub lexed : IsLexed text lines (Some fault)

-- these bytes are held, which decide this fault: it is kept, and no line is ready
abbrev pub FailsIn : Feed → List ℕ → Fault → Feed → Type 0
FailsIn old items fault new =
    Holds old items (Some fault) new × (new.ready ≡ None)
    × WhereHeld old.state.place old.state.line items (λ text lines. IsDecidedAt text old.state.place lines (length items) fault)

-- nothing that contracts see has changed, no line is ready, and the scan may go on
abbrev pub IsUnchanged : Feed → Feed → Type 0
IsUnchanged old new = Holds old old.held.items old.state.fault new × (new.ready ≡ None) × IsHeldOpen new

-- These bytes begin with characters of a logical line: the one of these pieces. The scan stopped after them.
pub record BeginWithLine (items : List ℕ) (stopped end_len : ℕ) : Type 0 where
  pub read : List ℕ
  pub rest : List ℕ
  pub pieces : List Piece
  pub scalars : all_scalars read ≡ true
  pub spell : encode_utf8_all read ++ rest ≡ items
  pub spells : spelled pieces ≡ read
  pub text : AreLineText (take stopped items) pieces
  pub whole : cut 0 pieces ≡ pieces ∷ []
  pub ends : end_len ≡ end_len_of pieces
  pub stop : stopped ≡ byte_len read
  pub some : 0 < byte_len read

-- what is held does
abbrev pub HoldsLine : Feed → ℕ → Type 0
HoldsLine f end_len = BeginWithLine f.held.items f.state.scan.stop end_len

-- that logical line
abbrev pub line_held : (f : Feed) (end_len : ℕ) → HoldsLine f end_len → LogicalLine
line_held f end_len h = line_of f.state.place f.state.line h.pieces

-- the line after it is this one
abbrev pub IsLineAfterHeld : Feed → ℕ → Type 0
IsLineAfterHeld f line =
    (read : List ℕ) → encode_utf8_all read ≡ take f.state.scan.stop f.held.items → line ≡ f.state.line + line_ends read

-- such a line is ready, with its tokens
pub record IsReady (f : Feed) (end_len : ℕ) : Type 0 where
  pub no_fault : f.state.fault ≡ None
  pub holds : HoldsLine f end_len
  pub after : IsLineAfterHeld f f.next_line
  pub line_is : line_of_feed f end_len ≡ line_held f end_len holds

-- a line is ready, or else one is open in what is held, unless the text has a fault
abbrev pub StandsSo : Feed → Option ℕ → Type 0
StandsSo f None = f.state.fault ≡ None → IsHeldOpen f
StandsSo f (Some end_len) = IsReady f end_len

-- the state between two calls
pub record IsSoundFeed (f : Feed) : Type 0 where
  pub room : HasRoom f 0
  pub state : StandsSo f f.ready

-- the scanner as its callers see it, with this line ready
abbrev pub with_line : Feed → Option LogicalLine → ScannerState
with_line f line = record (scanning_of f) { ready = line }

-- the line that stands in what is held, if one does, and else one is open, unless the text has a fault
abbrev pub HoldsSo : Feed → Option ℕ → Option LogicalLine → Type 0
HoldsSo f None line = (line ≡ None) × (f.state.fault ≡ None → IsHeldOpen f)
HoldsSo f (Some end_len) line = (h : HoldsLine f end_len) × (line ≡ Some (line_held f end_len h))

-- the tokens of that line were read: callers see it ready
pub record HasReadTokens (old new : Feed) : Type 0 where
  pub seen : (line : Option LogicalLine) → HoldsSo old old.ready line → scanning_of new ≡ with_line old line
  pub sound : IsSoundFeed new

-- what a call that reads the tokens answers and leaves, where so many bytes were taken last
abbrev pub ReadsTokens : Feed → ℕ → Result (Unit {0}) LexError → Feed → Type 0
ReadsTokens old taken (Ok done) new = HasReadTokens old new
ReadsTokens old taken (Err (LexError.Fault f)) new = ⊥
ReadsTokens old taken (Err LexError.Memory) new = DropsLine old (length old.held.items - taken) new

-- All that is held was scanned, and no line has ended in it. Or it is the line that has ended, with one byte more after CR alone, unless
-- the line had ended in these bytes of it.
abbrev pub EndsWithLine : List ℕ → Feed → Option ℕ → Type 0
EndsWithLine before f None = IsScanned f None
EndsWithLine before f (Some end_len) =
    (s : StopsHeld f (Stop.LineEnd end_len))
    × (EndsExactly s.read s.rest ⊎ ScansIn (first_mode f.state.place) before f.state.scan (Stop.LineEnd end_len))

-- so many bytes of a piece are held after those that were, some if there are any, and were scanned
pub record HoldsMore (old : Feed) (held before piece : List ℕ) (n : ℕ) (new : Feed) : Type 0 where
  pub within : n ≤ length piece
  pub some : n ≡ 0 → length piece ≡ 0
  pub text : Holds old (held ++ take n piece) old.state.fault new
  pub ends : EndsWithLine before new new.ready

-- what follows from where the scan of what is held has stopped: so many bytes of it stay held after these first ones
abbrev pub Meets : Feed → ℕ → Result ℕ LexError → Feed → Type 0
Meets old before (Ok n) new = HoldsMore old (take before old.held.items) (take before old.held.items) (drop before old.held.items) n new
Meets old before (Err (LexError.Fault f)) new = FailsIn old old.held.items f new
Meets old before (Err LexError.Memory) new = ⊥

-- where a line has ended, it is ready, and nothing else has changed than what is held
abbrev pub IsReadyAt : Feed → Stop → Feed → Type 0
IsReadyAt old (Stop.LineEnd end_len) new = new ≡ record old { held = new.held; ready = Some end_len }
IsReadyAt old other new = Unit {0}

-- the scan of a piece where it stands, after what is held, has stopped so
abbrev pub ScansPiece : Feed → List ℕ → Stop → Type 0
ScansPiece f piece stop = ScansIn (first_mode f.state.place) (f.held.items ++ piece) f.state.scan stop

-- with some bytes of a piece after what was held this fault is met, and kept
abbrev pub FailsAfter : Feed → List ℕ → Fault → Feed → Type 0
FailsAfter old piece fault new = (n : ℕ) × (n ≤ length piece) × FailsIn old (old.held.items ++ take n piece) fault new

-- what a call that takes bytes of a piece once answers and leaves
abbrev pub Takes : Feed → List ℕ → Result ℕ LexError → Feed → Type 0
Takes old piece (Ok n) new = HoldsMore old old.held.items old.held.items piece n new
Takes old piece (Err (LexError.Fault f)) new = FailsAfter old piece f new
Takes old piece (Err LexError.Memory) new = IsUnchanged old new

-- so many bytes of a piece were taken, and then this line stands in what is held, if one does
pub record TakesLine (old : Feed) (piece : List ℕ) (n : ℕ) (new : Feed) : Type 0 where
  pub line : Option LogicalLine
  pub holds : HoldsSo new new.ready line
  pub takes : TakesBytes (scanning_of old) piece n (with_line new line)
  pub room : HasRoom new 0

-- what a call that takes bytes of a piece answers and leaves
abbrev pub TakesSo : Feed → List ℕ → Result ℕ LexError → Feed → Type 0
TakesSo old piece (Ok n) new = TakesLine old piece n new
TakesSo old piece (Err error) new = Feeds (scanning_of old) piece (Err error) (scanning_of new) × IsSoundFeed new

-- the line that was ready is let go: what is held begins after it, and so does the scan of the next line
pub record LetsGo (old new : Feed) : Type 0 where
  pub place : new.state.place ≡ old.state.place + old.state.scan.stop
  pub line : (read : List ℕ) → encode_utf8_all read ≡ take old.state.scan.stop old.held.items → new.state.line ≡ old.state.line + line_ends read
  pub held : new.held.items ≡ drop old.state.scan.stop old.held.items
  pub ready : new.ready ≡ None
  pub ended : new.ended ≡ old.ended
  pub fault : new.state.fault ≡ old.state.fault
  pub opens : IsOpen new new.held.items
