-- How a finder over pieces goes from one state to the next within a call.
use Rattle.std.specs.Prelude.{◌≡◌, ℕ, ◌+◌, ◌<◌, ◌≤◌, ◌⊎◌, Bool, true, false, Option, None, Some, Result, Ok, Err, List, [], codes, length, take}
use Rattle.py_lines.specs.LogicalLine.{LogicalLine}
use Rattle.py_lines.specs.ScannerState.{ScannerState, Feeds, FeedsNaming, Releases}
use Rattle.py_lines.specs.declared.fault.LexError.{LexError}
use Rattle.py_imports.specs.declared.binding.Binding.{Binding}
use Rattle.isort_find.specs.Pieces.{PieceFinderState, HasFoundIn, InEachText, HasNoFault, IsUndecided, IsNextNew, PieceFinderRunsOut, MeetsFaultIn, piece_finder_state, fed_by, has_ready}
use Rattle.isort_find.specs.Position.{phase_in, is_unread, skip_in}
use Rattle.isort_find.specs.Private.CursorMoves.{cursor_before}
use Rattle.isort_find.specs.Private.Walks.{WalkerState, LooksAhead, ReadsOrLosesLine, TakesOne, TriesLine, after_line, passed_up_to, read_again, walker_state}
use Rattle.isort_find.specs.declared.error.FindError.{FindError}
use Rattle.isort_find.specs.declared.error.FindError.TheVariants as error
use Rattle.isort_find.specs.declared.pending.LineStart.{LineStart}
use Rattle.isort_find.specs.declared.walker.Position.TheVariants as position
use Rattle.isort_find.specs.declared.walker.Phase.TheVariants as phase

-- the walker of a finder
abbrev pub walker_of : PieceFinderState → WalkerState
walker_of f = walker_state f.position f.cursor

-- a finder with another walker
abbrev pub with_walker : PieceFinderState → WalkerState → PieceFinderState
with_walker f w = piece_finder_state f.scanning w.position w.cursor

-- this is where the lines end that the scanner has released
pub record IsNextStart (s : ScannerState) (start : LineStart) : Type 0 where
  pub offset : start.offset ≡ s.place
  pub line : start.line ≡ s.line

-- the logical line that is ready, if one is, was released
abbrev pub ReleasesAny : ScannerState → ScannerState → Type 0
ReleasesAny old new = ((old.ready ≡ None) × (new ≡ old)) ⊎ Releases old new

-- the line read last is let go
pub record LetsLineGo (old new : PieceFinderState) : Type 0 where
  pub same : new ≡ record old { scanning = new.scanning; position = after_line old.position }
  pub scanner : ReleasesAny old.scanning new.scanning
  pub none_ready : new.scanning.ready ≡ None
  pub some_text : (line : LogicalLine) → old.scanning.ready ≡ Some line → 0 < length line.text

-- a logical line is ready that begins here
pub record HasReady (s : ScannerState) (line : LogicalLine) (start : LineStart) : Type 0 where
  pub ready : s.ready ≡ Some line
  pub some_text : 0 < length line.text
  pub here : IsNextStart s start

-- the line that is ready was handed to the walker, which did this
pub record HandsLine (Does : WalkerState → LogicalLine → LineStart → Result (Unit {0}) FindError → WalkerState → Type 0)
    (old : PieceFinderState) (result : Result (Unit {0}) FindError) (new : PieceFinderState) : Type 0 where
  pub line : LogicalLine
  pub start : LineStart
  pub walker : WalkerState
  pub at : HasReady old.scanning line start
  pub does : Does (walker_of old) line start result walker
  pub same : new ≡ with_walker old walker

-- the line that is ready was tried, if one is
abbrev pub TriesReady : PieceFinderState → Result (Unit {0}) FindError → PieceFinderState → Type 0
TriesReady old result new =
    ((old.scanning.ready ≡ None) × (result ≡ Ok tt) × (new ≡ old)) ⊎ HandsLine TriesLine old result new

-- no line is held that was read, or it ends the top
abbrev pub IsDrained : PieceFinderState → Type 0
IsDrained f = (f.scanning.ready ≡ None) ⊎ (phase_in f.position ≡ phase.End)

-- between two logical lines, and none is held that was read
pub record IsBetween (f : PieceFinderState) : Type 0 where
  pub position : f.position ≡ position.Between (skip_in f.position)
  pub none_ready : f.scanning.ready ≡ None

-- so many bytes of a piece were taken, and what was found before them is what is found up to there
pub record Advances (old : PieceFinderState) (piece : List ℕ) (n : ℕ) (new : PieceFinderState) : Type 0 where
  pub within : n ≤ length piece
  pub found : InEachText old (take n piece) (HasFoundIn new)
  pub held : length new.scanning.held ≤ length old.scanning.held + n
  pub fed : fed_by new ≡ fed_by old + n
  pub cursor : new.cursor ≡ old.cursor
  pub open_yet : new.scanning.ended ≡ old.scanning.ended

-- the line read last was let go, and so many bytes were passed over: logical lines that bind nothing
pub record PassesLines (old : PieceFinderState) (piece : List ℕ) (n : ℕ) (new : PieceFinderState) : Type 0 where
  pub advances : Advances old piece n new
  pub between : IsBetween new
  pub gone : (line : LogicalLine) → old.scanning.ready ≡ Some line → length new.scanning.held < length old.scanning.held + n

-- Bytes were taken up to a line's end or the piece's, and that line was read. With a line that is ready one byte more may
-- be held, which wasn't looked at yet.
pub record TakesLines (old : PieceFinderState) (piece : List ℕ) (n : ℕ) (new : PieceFinderState) : Type 0 where
  pub advances : Advances old piece n new
  pub undecided : InEachText old (take n piece) (λ text values. has_ready new ≡ false → IsDrained new → IsUndecided new text)
  pub next_new : IsNextNew new
  pub some : n ≡ 0 → piece ≡ []
  pub no_fault : HasNoFault new

-- no binding of the next line was looked at, and no line ends the top
pub record MayPassLines (f : PieceFinderState) : Type 0 where
  pub fresh : skip_in f.position ≡ 0
  pub counts : f.cursor.options.top_only ≡ false

-- the scanner was fed, and nothing else changed: a line in which neither `import` nor `from` stands was let go at once, if it may be
pub record FeedsLine (old : PieceFinderState) (piece : List ℕ) (result : Result ℕ LexError) (new : PieceFinderState) : Type 0 where
  pub same : new ≡ record old { scanning = new.scanning }
  pub feeds : Feeds old.scanning piece result new.scanning
      ⊎ (MayPassLines old × FeedsNaming (codes "import") (codes "from") old.scanning piece result new.scanning)

-- Bytes were taken up to a line's end, and that line was let go at once: it binds nothing. One byte more may be held, which wasn't
-- looked at yet.
pub record PassesLine (old : PieceFinderState) (piece : List ℕ) (n : ℕ) (new : PieceFinderState) : Type 0 where
  pub advances : Advances old piece n new
  pub between : IsBetween new
  pub some : n ≡ 0 → piece ≡ []
  pub further : old.scanning.place < new.scanning.place

-- a growth was refused before the first byte, and no line is held that was read
pub record TakesNothing (old new : PieceFinderState) : Type 0 where
  pub keeps : PieceFinderRunsOut old new
  pub none_ready : new.scanning.ready ≡ None
  pub held : length new.scanning.held ≤ length old.scanning.held

-- what comes of taking bytes where nothing is ready
abbrev pub TakesBytesOf : PieceFinderState → List ℕ → Result ℕ FindError → PieceFinderState → Type 0
TakesBytesOf old piece (Ok n) new = TakesLines old piece n new
TakesBytesOf old piece (Err (error.Fault fault)) new = MeetsFaultIn old piece fault new
TakesBytesOf old piece (Err error.Memory) new = TakesNothing old new

-- the same, of one line, which may have been let go at once
abbrev pub TakesLineOf : PieceFinderState → List ℕ → Result ℕ FindError → PieceFinderState → Type 0
TakesLineOf old piece (Ok n) new = TakesLines old piece n new ⊎ PassesLine old piece n new
TakesLineOf old piece (Err e) new = TakesBytesOf old piece (Err e) new

-- the line that ends the top was read, or the whole piece was taken and no line is held that was read
abbrev pub HasTakenAll : List ℕ → ℕ → PieceFinderState → Type 0
HasTakenAll piece n f = (phase_in f.position ≡ phase.End) ⊎ ((n ≡ length piece) × (f.scanning.ready ≡ None))

-- nothing is ready, and there is more to take, or the lines that were let go end after this byte, or a line is held that was read
pub record IsToGoOn (f : PieceFinderState) (more : Bool) (place : ℕ) : Type 0 where
  pub is_open : phase_in f.position ≡ phase.Open
  pub none_ready : has_ready f ≡ false
  pub either : (more ≡ true) ⊎ (place < f.scanning.place) ⊎ ((line : LogicalLine) × (f.scanning.ready ≡ Some line))

-- there is no more to take, no line was let go that began at this byte, and none is held that was read
pub record HasNoMore (f : PieceFinderState) (more : Bool) (place : ℕ) : Type 0 where
  pub all : more ≡ false
  pub stays : f.scanning.place ≤ place
  pub none_ready : f.scanning.ready ≡ None

-- the end or a fault was met, or there is no more to take
abbrev pub IsToStop : PieceFinderState → Bool → ℕ → Type 0
IsToStop f more place = ¬ (phase_in f.position ≡ phase.Open) ⊎ HasNoMore f more place

-- more was passed over after the top
abbrev pub with_passed : PieceFinderState → ℕ → PieceFinderState
with_passed f n = record f { position = passed_up_to f.position (fed_by f + n) }

-- the cursor goes to where the next line begins, of which nothing was looked at
pub record StandsNext (old new : PieceFinderState) : Type 0 where
  pub start : LineStart
  pub here : IsNextStart old.scanning start
  pub fresh : skip_in old.position ≡ 0
  pub same : new ≡ record old { cursor = cursor_before old.cursor start }

-- the same, or it stands there
abbrev pub MayStandNext : PieceFinderState → PieceFinderState → Type 0
MayStandNext old new = StandsNext old new ⊎ ((¬ (skip_in old.position ≡ 0)) × (new ≡ old))

-- before the end and a fault, the line read last is let go
abbrev pub MayLetLineGo : PieceFinderState → PieceFinderState → Type 0
MayLetLineGo old new =
    ((phase_in old.position ≡ phase.Open) × LetsLineGo old new) ⊎ ((¬ (phase_in old.position ≡ phase.Open)) × (new ≡ old))

-- nothing is ready: the line read last is let go, and the cursor goes to where the next line begins, or stands there
pub record Rests (old new : PieceFinderState) : Type 0 where
  pub mid : PieceFinderState
  pub goes : MayLetLineGo old mid
  pub stands : MayStandNext mid new

-- the line that is ready was read, or memory ran out for it; if none is, it comes next
abbrev pub ReadsReady : PieceFinderState → Result (Unit {0}) FindError → PieceFinderState → Type 0
ReadsReady old result new =
    ((old.scanning.ready ≡ None) × (result ≡ Ok tt) × (new ≡ record old { position = read_again old.position }))
    ⊎ HandsLine ReadsOrLosesLine old result new

-- the line that was left unread was read, if one was
abbrev pub ReadsUnread : PieceFinderState → Result (Unit {0}) FindError → PieceFinderState → Type 0
ReadsUnread old result new =
    ((is_unread old.position ≡ true) × ReadsReady old result new)
    ⊎ ((is_unread old.position ≡ false) × (result ≡ Ok tt) × (new ≡ old))

-- after a binding, or where none is left, those are passed over whose keys were given
abbrev pub LooksOn : WalkerState → Result (Option Binding) FindError → WalkerState → Type 0
LooksOn old (Ok b) new = LooksAhead old new
LooksOn old (Err e) new = new ≡ old

-- what is taken of the bindings of the line
pub record TakesRead (old : PieceFinderState) (result : Result (Option Binding) FindError) (new : PieceFinderState) : Type 0 where
  pub mid : WalkerState
  pub walker : WalkerState
  pub takes : TakesOne (walker_of old) result mid
  pub looks : LooksOn mid result walker
  pub same : new ≡ with_walker old walker

-- what is taken once the line was read: an error is handed on
abbrev pub TakesAfter : Result (Unit {0}) FindError → PieceFinderState → Result (Option Binding) FindError
    → PieceFinderState → Type 0
TakesAfter (Ok done) old result new = TakesRead old result new
TakesAfter (Err e) old result new = (result ≡ Err e) × (new ≡ old)

-- what is taken of the last line
pub record TakesReady (old : PieceFinderState) (result : Result (Option Binding) FindError) (new : PieceFinderState) : Type 0 where
  pub mid : PieceFinderState
  pub read : Result (Unit {0}) FindError
  pub reads : ReadsUnread old read mid
  pub takes : TakesAfter read mid result new
