-- The state of a `Scanner`, and what each of its calls does, whatever text the pieces come from. A scanner knows neither
-- the text nor the lines released of it: `IsScanning state text lines` says that it scans this text and has released
-- these lines. A record of a call (`TakesBytes`, `Releases` ..) says of each such text and lines what is so after the call
-- (`WhereScans`, `WhereFed`, `WhereWhole`), and then what the state itself has become.
pub mod View
use Rattle.std.specs.Prelude.{◌≡◌, ℕ, ◌+◌, ◌<◌, ◌≤◌, ◌⊎◌, Bool, true, false, Option, None, Some, Result, Ok, Err, List, [], ◌∷◌, ◌++◌, flat_map, length, take, drop}
use Rattle.memchr.specs.Find.{Nowhere, OccursAt}
use Rattle.py_lines.specs.Character.{is_return}
use Rattle.py_lines.specs.Piece.{ends}
use Rattle.py_lines.specs.LogicalLine.{LogicalLine}
use Rattle.py_lines.specs.Lexed.{IsLexed}
use Rattle.py_lines.specs.Settled.{IsSettled, Decides, DecideNone}
use Rattle.py_lines.specs.Given.{AreFirstLines}
use Rattle.py_lines.specs.declared.fault.Fault.{Fault}
use Rattle.py_lines.specs.declared.fault.LexError.{LexError}
use Rattle.py_lines.specs.declared.fault.LexError.TheVariants as lex

-- `place` is the byte up to which lines were released, `line` is its line, and `held` is the text fed since
pub record ScannerState : Type 0 where
  pub place : ℕ
  pub line : ℕ
  pub held : List ℕ
  pub ready : Option LogicalLine
  pub ended : Bool
  pub fault : Option Fault

-- a scanner that stands at this byte of a text, on this line, and was fed nothing yet
abbrev pub begun_at : ℕ → ℕ → ScannerState
begun_at place line = record { place = place; line = line; held = []; ready = None; ended = false; fault = None }

-- the byte of the text up to which it was fed
abbrev pub fed_of : ScannerState → ℕ
fed_of s = s.place + length s.held

-- the line that is ready, if there is one
abbrev pub ready_lines : Option LogicalLine → List LogicalLine
ready_lines None = []
ready_lines (Some u) = u ∷ []

-- just one byte, which isn't LF
abbrev pub IsOneOther : List ℕ → Type 0
IsOneOther bytes = (b : ℕ) × (bytes ≡ b ∷ []) × (b ≡ 10 → ⊥)

-- what is held after a line that is ready: one byte after CR, which isn't LF, and else nothing
abbrev pub EndsExactly : List ℕ → List ℕ → Type 0
EndsExactly line more = ((ends is_return line ≡ false) × (more ≡ [])) ⊎ ((ends is_return line ≡ true) × IsOneOther more)

-- the line that is ready is what the scanner holds, with the one byte that shows that CR ends it
abbrev pub HoldsReady : List ℕ → Option LogicalLine → Type 0
HoldsReady held None = Unit {0}
HoldsReady held (Some u) = (more : List ℕ) × (held ≡ u.text ++ more) × EndsExactly u.text more

-- the same where the text has ended: the line that is ready is all that the scanner holds
abbrev pub HoldsLast : List ℕ → Option LogicalLine → Type 0
HoldsLast held None = Unit {0}
HoldsLast held (Some u) = held ≡ u.text

-- the text goes on with these bytes after this one
abbrev pub GoesOnWith : List ℕ → ℕ → List ℕ → Type 0
GoesOnWith text place bytes = take (length bytes) (drop place text) ≡ bytes

-- The scanner was fed so much of this text and has released these lines of it. They are the text's first, and with the
-- line that is ready they are those that the bytes fed settle, no fewer and no more; `held` is the text fed since.
pub record IsScanning (s : ScannerState) (text : List ℕ) (lines : List LogicalLine) : Type 0 where
  pub first : AreFirstLines text s.place s.line lines
  pub held : GoesOnWith text s.place s.held
  pub settled : 0 < length s.held → IsSettled (take (fed_of s) text) (lines ++ ready_lines s.ready)
  pub whole : HoldsReady s.held s.ready
  pub open_yet : s.ended ≡ false
  pub no_fault : s.fault ≡ None

-- this holds of each text that the scanner scans, and of the lines released of it
abbrev pub WhereScans : ScannerState → (List ℕ → List LogicalLine → Type 0) → Type 0
WhereScans s holds = (text : List ℕ) (lines : List LogicalLine) → IsScanning s text lines → holds text lines

-- the same, where the text goes on with these bytes
abbrev pub WhereFed : ScannerState → List ℕ → (List ℕ → List LogicalLine → Type 0) → Type 0
WhereFed s bytes holds = WhereScans s (λ text lines. GoesOnWith text (fed_of s) bytes → holds text lines)

-- the same, where the text ends with the bytes fed
abbrev pub WhereWhole : ScannerState → (List ℕ → List LogicalLine → Type 0) → Type 0
WhereWhole s holds = WhereScans s (λ text lines. length text ≡ fed_of s → holds text lines)

-- where a text's first logical lines reach to this byte, which is on this line, the scanner scans it from there on
abbrev pub ScansFrom : ℕ → ℕ → ScannerState → Type 0
ScansFrom offset line s =
    (text : List ℕ) (lines : List LogicalLine) → AreFirstLines text offset line lines → IsScanning s text lines

-- The text was fed whole, and has no fault. The lines released are its first, and with the one that is ready they are
-- all its lines.
pub record HasEnded (s : ScannerState) (text : List ℕ) (lines : List LogicalLine) : Type 0 where
  pub first : AreFirstLines text s.place s.line lines
  pub lexed : IsLexed text (lines ++ ready_lines s.ready) None
  pub held : s.held ≡ drop s.place text
  pub whole : HoldsLast s.held s.ready
  pub ended : s.ended ≡ true
  pub no_fault : s.fault ≡ None

-- The scanner took so many bytes of a piece. It takes none of some only where a line is ready, and where none is ready
-- in the end, the bytes fed decide no fault.
pub record TakesBytes (old : ScannerState) (piece : List ℕ) (n : ℕ) (new : ScannerState) : Type 0 where
  pub within : n ≤ length piece
  pub scans : WhereFed old (take n piece) (IsScanning new)
  pub undecided : WhereFed old (take n piece) (λ text lines. new.ready ≡ None → DecideNone (take (fed_of new) text))
  pub some : n ≡ 0 → (piece ≡ []) ⊎ ((u : LogicalLine) × (old.ready ≡ Some u))
  pub waits : (u : LogicalLine) → old.ready ≡ Some u → (n ≡ 0) × (new ≡ old)
  pub held : new.held ≡ old.held ++ take n piece
  pub place : new.place ≡ old.place
  pub line : new.line ≡ old.line
  pub fault : old.fault ≡ None
  pub open_yet : new.ended ≡ old.ended
  pub no_fault : new.fault ≡ None

-- after these lines the text has this fault, which so many bytes and some of the piece decide
abbrev pub IsDecidedWithin : ℕ → List ℕ → Fault → List ℕ → List LogicalLine → Type 0
IsDecidedWithin fed piece fault text lines =
    (n : ℕ) × (n ≤ length piece) × Decides (take (fed + n) text) fault × IsLexed text lines (Some fault)

-- The text fed, with some of the piece, decides this fault, after the lines released; no line was ready. It is kept, and
-- the scanner may be called again.
pub record MeetsFault (old : ScannerState) (piece : List ℕ) (fault : Fault) (new : ScannerState) : Type 0 where
  pub decided : WhereFed old piece (IsDecidedWithin (fed_of old) piece fault)
  pub again : (first : Fault) → old.fault ≡ Some first → fault ≡ first
  pub none_ready : old.fault ≡ None → old.ready ≡ None
  pub place : new.place ≡ old.place
  pub line : new.line ≡ old.line
  pub fed : fed_of new ≤ fed_of old + length piece
  pub ready : new.ready ≡ old.ready
  pub open_yet : new.ended ≡ old.ended
  pub kept : new.fault ≡ Some fault

-- A growth was refused, and nothing changed. It is answered only where no line is ready and no fault is known.
pub record ScannerRunsOut (old new : ScannerState) : Type 0 where
  pub same : new ≡ old
  pub none_ready : old.ready ≡ None
  pub no_fault : old.fault ≡ None

-- what a call that is fed a piece answers
abbrev pub Feeds : ScannerState → List ℕ → Result ℕ LexError → ScannerState → Type 0
Feeds old piece (Ok n) new = TakesBytes old piece n new
Feeds old piece (Err (lex.Fault f)) new = MeetsFault old piece f new
Feeds old piece (Err lex.Memory) new = ScannerRunsOut old new

-- this word stands nowhere in these bytes
abbrev pub LacksWord : List ℕ → List ℕ → Type 0
LacksWord bytes word = Nowhere (OccursAt bytes word) 0 (length bytes)

-- neither word stands in these bytes
abbrev pub LacksBoth : List ℕ → List ℕ → List ℕ → Type 0
LacksBoth word other bytes = LacksWord bytes word × LacksWord bytes other

-- the scanner scans this text, of which it has released these lines, and the bytes fed settle them
abbrev pub HasSettled : ScannerState → List ℕ → List LogicalLine → Type 0
HasSettled s text lines = IsScanning s text lines × IsSettled (take (fed_of s) text) lines

-- the line that was ready is released
pub record Releases (old new : ScannerState) : Type 0 where
  pub unit : LogicalLine
  pub was : old.ready ≡ Some unit
  pub scans : WhereScans old (λ text lines. HasSettled new text (lines ++ unit ∷ []))
  pub ends : (text : List ℕ) (lines : List LogicalLine) → HasEnded old text lines → HasEnded new text (lines ++ unit ∷ [])
  pub place : new.place ≡ old.place + length unit.text
  pub held : old.held ≡ unit.text ++ new.held
  pub none_ready : new.ready ≡ None
  pub ended : new.ended ≡ old.ended
  pub fault : new.fault ≡ old.fault

-- So many bytes of a piece were taken, and a line in which neither word stands was released at once, if one got ready with them: then
-- none is ready. A line that is ready was so before, or one of the words stands in it. One that was ready before stays so.
pub record TakesNaming (word other : List ℕ) (old : ScannerState) (piece : List ℕ) (n : ℕ) (new : ScannerState) : Type 0 where
  pub mid : ScannerState
  pub takes : TakesBytes old piece n mid
  pub same : (new ≡ mid) ⊎ ((line : LogicalLine) × (mid.ready ≡ Some line) × LacksBoth word other line.text × Releases mid new)
  pub kept : (line : LogicalLine) → new.ready ≡ Some line → (old.ready ≡ Some line) ⊎ ¬ (LacksBoth word other line.text)
  pub waits : (line : LogicalLine) → old.ready ≡ Some line → new ≡ old

-- what a call that is fed a piece answers, where lines in which neither word stands are released at once
abbrev pub FeedsNaming : List ℕ → List ℕ → ScannerState → List ℕ → Result ℕ LexError → ScannerState → Type 0
FeedsNaming word other old piece (Ok n) new = TakesNaming word other old piece n new
FeedsNaming word other old piece (Err (lex.Fault f)) new = MeetsFault old piece f new
FeedsNaming word other old piece (Err lex.Memory) new = ScannerRunsOut old new

-- the scanner stands where a line begins: it holds at most the line's first byte, as after CR, and the text goes on
pub record StandsAtLine (s : ScannerState) : Type 0 where
  pub held : length s.held ≤ 1
  pub ready : s.ready ≡ None
  pub open_yet : s.ended ≡ false
  pub no_fault : s.fault ≡ None

-- so many of these bytes are whole lines, and what is held after them are the next: one after CR, and else none
pub record HoldsAfterLines (bytes : List ℕ) (len : ℕ) (held : List ℕ) : Type 0 where
  pub exact : EndsExactly (take len bytes) held
  pub within : len + length held ≤ length bytes
  pub next : take (len + length held) bytes ≡ take len bytes ++ held

-- Lines were passed over: so many bytes of the text from the place of the scanner on, the first of which may be held. They are these
-- logical lines, one after another, and end at this byte of them or before it. Or none were, and nothing changed.
pub record PassesPieceLines (old : ScannerState) (bytes : List ℕ) (before len : ℕ) (new : ScannerState) : Type 0 where
  pub lines : List LogicalLine
  pub texts : flat_map (λ line. line.text) lines ≡ take len bytes
  pub ends : len ≤ before
  pub stands : 0 < len → StandsAtLine old
  pub began : 0 < len → take (length old.held) bytes ≡ old.held
  pub held : 0 < len → HoldsAfterLines bytes len new.held
  pub scans : 0 < len → WhereScans old (λ text given.
      GoesOnWith text old.place (take len bytes ++ new.held) → HasSettled new text (given ++ lines))
  pub place : new.place ≡ old.place + len
  pub others : new ≡ record old { place = new.place; line = new.line; held = new.held }
  pub same : len ≡ 0 → new ≡ old

-- the text ends here: what is left is its last line, if anything is left
pub record EndsScan (old new : ScannerState) : Type 0 where
  pub scans : WhereWhole old (HasEnded new)
  pub place : new.place ≡ old.place
  pub held : new.held ≡ old.held
  pub fault : old.fault ≡ None
  pub ended : new.ended ≡ true
  pub no_fault : new.fault ≡ None

-- The text that ends here has this fault, after the lines released. It is kept, and the scanner may be called again.
pub record EndsFaulty (old : ScannerState) (fault : Fault) (new : ScannerState) : Type 0 where
  pub all : WhereWhole old (λ text lines. IsLexed text lines (Some fault))
  pub again : (first : Fault) → old.fault ≡ Some first → fault ≡ first
  pub place : new.place ≡ old.place
  pub line : new.line ≡ old.line
  pub held : new.held ≡ old.held
  pub fed : fed_of new ≡ fed_of old
  pub ready : new.ready ≡ old.ready
  pub open_yet : new.ended ≡ old.ended
  pub kept : new.fault ≡ Some fault

-- what a call that ends the text answers
abbrev pub Finishes : ScannerState → Result (Unit {0}) LexError → ScannerState → Type 0
Finishes old (Ok done) new = EndsScan old new
Finishes old (Err (lex.Fault f)) new = EndsFaulty old f new
Finishes old (Err lex.Memory) new = ScannerRunsOut old new
