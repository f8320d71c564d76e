-- What contracts see of a finder that is fed a text in pieces, and what each of its calls does, whatever text they come
-- from. So a promise speaks of every text of which the finder has found some bindings (`HasFoundIn`) and that goes on with
-- the bytes taken: `InEachText` names these premises.
use Rattle.std.specs.Prelude.{◌≡◌, ℕ, ◌+◌, ◌^◌, ◌<◌, ◌≤◌, ◌⊎◌, Bool, true, false, not, Option, None, Some, Result, Ok, Err, List, [], ◌∷◌, ◌++◌, length, take, max}
use Rattle.std.specs.List.{list_all}
use Rattle.py_lines.specs.LogicalLine.{LogicalLine}
use Rattle.py_lines.specs.Lexed.{IsLexed}
use Rattle.py_lines.specs.Settled.{IsSettled}
use Rattle.py_lines.specs.Given.{AreFirstLines}
use Rattle.py_lines.specs.Reader.{HasGiven, standing_at}
use Rattle.py_lines.specs.ScannerState.{ScannerState, fed_of, EndsExactly, GoesOnWith, IsScanning, HasEnded}
use Rattle.py_lines.specs.declared.fault.Fault.{Fault}
use Rattle.py_imports.specs.BindingValue.{BindingValue, binding_value}
use Rattle.py_imports.specs.Binds.{BindAll}
use Rattle.py_imports.specs.declared.binding.Binding.{Binding}
use Rattle.isort_find.specs.Found.{firsts, ends_top, IsFound}
use Rattle.isort_find.specs.Settled.{IsFoundSettled, DecidesFound}
use Rattle.isort_find.specs.Cursor.{CursorState, next_count, BeginsNew, IsAfter, HasStopped}
use Rattle.isort_find.specs.Pending.{PendingState}
use Rattle.isort_find.specs.Position.{phase_in, left_in, is_unread, ready_in, IsInside, BindsFrom, MeetsEndAt, EndsInFaultAt}
use Rattle.isort_find.specs.declared.options.FindOptions.{FindOptions}
use Rattle.isort_find.specs.declared.error.FindError.{FindError}
use Rattle.isort_find.specs.declared.error.FindError.TheVariants as error
use Rattle.isort_find.specs.declared.walker.Position.{Position}
use Rattle.isort_find.specs.declared.walker.Position.TheVariants as position
use Rattle.isort_find.specs.declared.walker.Phase.{Phase}
use Rattle.isort_find.specs.declared.walker.Phase.TheVariants as phase

-- The scanner, which holds the logical line that was read last until all of it was given; where the finder stands; and the
-- cursor at which it would stop.
pub record PieceFinderState : Type 0 where
  pub scanning : ScannerState
  pub position : Position
  pub cursor : CursorState

-- what a finder is seen as, by its fields
abbrev pub piece_finder_state : ScannerState → Position → CursorState → PieceFinderState
piece_finder_state scanning at cursor = record { scanning = scanning; position = at; cursor = cursor }

-- the options of the finder
abbrev pub options_for : PieceFinderState → FindOptions
options_for f = f.cursor.options

-- how far the text was fed: after the top by what was passed over too
abbrev pub fed_in : Position → ScannerState → ℕ
fed_in (position.End passed) s = max passed (fed_of s)
fed_in other s = fed_of s

-- the byte of the text up to which the finder was fed
abbrev pub fed_by : PieceFinderState → ℕ
fed_by f = fed_in f.position f.scanning

-- what is held of the text: nothing after the top
abbrev pub held_at_position : Position → ScannerState → List ℕ
held_at_position (position.End passed) s = []
held_at_position other s = s.held

-- the text that the finder holds
abbrev pub held_by : PieceFinderState → List ℕ
held_by f = held_at_position f.position f.scanning

-- whether an import is ready, or a refused growth left that open
abbrev pub has_ready : PieceFinderState → Bool
has_ready f = ready_in f.position

-- the text has ended, or the top
abbrev pub IsOver : PieceFinderState → Type 0
IsOver f = (f.scanning.ended ≡ true) ⊎ (phase_in f.position ≡ phase.End)

-- no fault was met
abbrev pub HasNoFault : PieceFinderState → Type 0
HasNoFault f = (fault : Fault) → f.position ≡ position.Fault fault → ⊥

-- the text hasn't ended, or a fault was met: bytes may be fed, and the text may end
abbrev pub IsOpenYet : PieceFinderState → Type 0
IsOpenYet f = HasNoFault f → f.scanning.ended ≡ false

-- bytes may be fed: no fault was met, and the text hasn't ended
pub record MayBeFed (f : PieceFinderState) : Type 0 where
  pub no_fault : HasNoFault f
  pub yet : f.scanning.ended ≡ false

-- how many bindings are left at most, where a line that was left unread has any number of them
abbrev pub due_in : Position → ℕ
due_in (position.Unread start skip) = 2 ^ 64
due_in other = length (left_in other)

-- how many bindings the finder may have to give yet
abbrev pub due_by : PieceFinderState → ℕ
due_by f = due_in f.position

-- the next binding that is left, if one is, has a key that wasn't given
abbrev pub IsNextNew : PieceFinderState → Type 0
IsNextNew f = BeginsNew f.cursor (left_in f.position)

-- a refused growth left the last line unread, or the key of the next binding was given
abbrev pub IsUnsure : PieceFinderState → Type 0
IsUnsure f = (is_unread f.position ≡ true) ⊎ ¬ (IsNextNew f)

-- the scanner has released just these logical lines of the text, of which more may come or not
abbrev pub HasReleased : ScannerState → List ℕ → List LogicalLine → Type 0
HasReleased s text lines = IsScanning s text lines ⊎ HasEnded s text lines

-- these logical lines are settled by the bytes fed, or they are all of the text
abbrev pub AreKnown : ScannerState → List ℕ → List LogicalLine → Type 0
AreKnown s text lines = IsSettled (take (fed_of s) text) lines ⊎ ((s.ended ≡ true) × IsLexed text lines None)

-- between two logical lines, the next of which may be ready; so many of its bindings were looked at
pub record IsBetweenLines (s : ScannerState) (cursor : CursorState) (text : List ℕ) (skip : ℕ)
    (values : List BindingValue) : Type 0 where
  pub after : IsAfter text cursor.options s.place s.line skip values
  pub released : HasReleased s text after.lines
  pub stands : (skip ≡ 0) ⊎ (cursor.offset ≡ s.place)

-- inside a logical line that was read, which is held
pub record IsWithinLine (s : ScannerState) (options : FindOptions) (text : List ℕ) (pending : PendingState)
    (values : List BindingValue) : Type 0 where
  pub lines : List LogicalLine
  pub line : LogicalLine
  pub released : HasReleased s text lines
  pub ready : s.ready ≡ Some line
  pub known : AreKnown s text (lines ++ line ∷ [])
  pub inside : IsInside text options lines line pending values

-- at the logical line that ends the top, which is settled
pub record IsAtTopEnd (s : ScannerState) (options : FindOptions) (text : List ℕ) (values : List BindingValue) : Type 0 where
  pub lines : List LogicalLine
  pub line : LogicalLine
  pub before : List BindingValue
  pub known : AreKnown s text (lines ++ line ∷ [])
  pub given : HasGiven (standing_at text s.place s.line) lines
  pub binds : BindAll lines before
  pub in_top : list_all (λ l. not (ends_top options l)) lines ≡ true
  pub ends : ends_top options line ≡ true
  pub found : values ≡ firsts options.unique [] before

-- where a finder has got
abbrev pub HasReachedIn : PieceFinderState → List ℕ → List BindingValue → Position → Type 0
HasReachedIn f text values (position.Between skip) =
    IsBetweenLines f.scanning f.cursor text skip values × (f.scanning.ready ≡ None)
HasReachedIn f text values (position.Unread start skip) = IsBetweenLines f.scanning f.cursor text skip values
HasReachedIn f text values (position.Within pending) = IsWithinLine f.scanning (options_for f) text pending values
HasReachedIn f text values (position.End passed) = IsAtTopEnd f.scanning (options_for f) text values
HasReachedIn f text values (position.Fault fault) = EndsInFaultAt text (options_for f) values f.cursor.offset fault

-- The finder was fed so much of this text. With those that it goes on from, it has given just these bindings: the first
-- that are found in the text.
pub record HasFoundIn (f : PieceFinderState) (text : List ℕ) (values : List BindingValue) : Type 0 where
  pub stopped : HasStopped text f.cursor values
  pub reached : HasReachedIn f text values f.position

-- of each text of which the finder has found some bindings
abbrev pub OfEachText : PieceFinderState → (List ℕ → List BindingValue → Type 0) → Type 0
OfEachText f P = (text : List ℕ) (values : List BindingValue) → HasFoundIn f text values → P text values

-- of each text of which the finder has found some bindings, and which goes on with these bytes where it was fed
abbrev pub InEachText : PieceFinderState → List ℕ → (List ℕ → List BindingValue → Type 0) → Type 0
InEachText f bytes P =
    (text : List ℕ) (values : List BindingValue) → HasFoundIn f text values → GoesOnWith text (fed_by f) bytes → P text values

-- of each text of which the finder has found some bindings, and which ends where it was fed
abbrev pub InEachWhole : PieceFinderState → (List ℕ → List BindingValue → Type 0) → Type 0
InEachWhole f P = (text : List ℕ) (values : List BindingValue) → HasFoundIn f text values → length text ≡ fed_by f → P text values

-- of each text in which a finder has stopped at this cursor, the finder has found what was found there
abbrev pub GoesOnFrom : CursorState → PieceFinderState → Type 0
GoesOnFrom cursor f = (text : List ℕ) (values : List BindingValue) → HasStopped text cursor values → HasFoundIn f text values

-- where what the bytes fed settle is found, it is these bindings
abbrev pub SettledAre : PieceFinderState → List ℕ → (List BindingValue → Type 0) → Type 0
SettledAre f text P =
    (found : List BindingValue) (bad : Option Fault) → IsFoundSettled (take (fed_by f) text) (options_for f) found bad → P found

-- what the bytes fed settle of what is found begins with these bindings
abbrev pub AreSettled : PieceFinderState → List ℕ → List BindingValue → Type 0
AreSettled f text values = SettledAre f text (λ found. (more : List BindingValue) × (found ≡ values ++ more))

-- All that the bytes fed settle of what is found was given. A cursor that the finder goes on from may have given more.
abbrev pub AreAllSettled : PieceFinderState → List ℕ → List BindingValue → Type 0
AreAllSettled f text values = SettledAre f text (λ found. (more : List BindingValue) × (values ≡ found ++ more))

-- no fault is decided by the bytes fed
abbrev pub IsUndecided : PieceFinderState → List ℕ → Type 0
IsUndecided f text = (fault : Fault) → ¬ (DecidesFound (take (fed_by f) text) (options_for f) fault)

-- The text that is held goes on from these logical lines up to where the text was fed. They are the text's first, and
-- once a byte is held they are all that the bytes fed settle.
pub record HoldsRest (f : PieceFinderState) (text : List ℕ) : Type 0 where
  pub lines : List LogicalLine
  pub first : AreFirstLines text f.scanning.place f.scanning.line lines
  pub held : GoesOnWith text f.scanning.place (held_by f)
  pub fed : fed_by f ≡ f.scanning.place + length (held_by f)
  pub settled : 0 < length (held_by f) → IsSettled (take (fed_by f) text) lines

-- The text that is held is the logical line that is ready, and after CR just one byte more, which isn't LF; at the text's
-- end no more. The line comes after these, and is settled by the bytes fed, or the last of the text.
pub record HoldsLine (f : PieceFinderState) (text : List ℕ) : Type 0 where
  pub lines : List LogicalLine
  pub line : LogicalLine
  pub more : List ℕ
  pub first : AreFirstLines text f.scanning.place f.scanning.line lines
  pub ready : f.scanning.ready ≡ Some line
  pub held : held_by f ≡ line.text ++ more
  pub exact : f.scanning.ended ≡ false → EndsExactly line.text more
  pub last : f.scanning.ended ≡ true → more ≡ []
  pub known : 0 < length (held_by f) → AreKnown f.scanning text (lines ++ line ∷ [])

-- the next logical line was left unread before it was whole: what isn't settled is held
pub record LeavesUnread (f : PieceFinderState) (text : List ℕ) : Type 0 where
  pub unread : is_unread f.position ≡ true
  pub yet : f.scanning.ended ≡ false
  pub rest : HoldsRest f text

-- What a finder holds of the text, by what it is. Something is ready: the logical line that is ready, or one was left unread
-- before it was whole. Nothing is ready, and the text goes on: what isn't settled. After the top: nothing.
abbrev pub HoldsBy : Phase → Bool → PieceFinderState → List ℕ → Type 0
HoldsBy phase.Open true f text = HoldsLine f text ⊎ LeavesUnread f text
HoldsBy phase.Open false f text = f.scanning.ended ≡ false → HoldsRest f text
HoldsBy phase.End ready f text = held_by f ≡ []
HoldsBy (phase.Fault fault) ready f text = Unit {0}

-- What is known of a text of which the finder has found these bindings. While bytes may be fed and nothing is ready, they
-- are all that the bytes fed settle.
pub record KnowsText (f : PieceFinderState) (text : List ℕ) (values : List BindingValue) : Type 0 where
  pub found : HasFoundIn f text values
  pub all : MayBeFed f → has_ready f ≡ false → AreAllSettled f text values
  pub holds : HoldsBy (phase_in f.position) (has_ready f) f text

-- the options are the same, and so many bindings were given in all
pub record CountsGiven (old : PieceFinderState) (count : ℕ) (new : PieceFinderState) : Type 0 where
  pub options : options_for new ≡ options_for old
  pub given : new.cursor.given ≡ count

-- no byte was taken and no fault met, and the end of the text and that of the top stay as they were
pub record IsFedNothing (old new : PieceFinderState) : Type 0 where
  pub fed : fed_by new ≡ fed_by old
  pub open_yet : new.scanning.ended ≡ old.scanning.ended
  pub no_fault : HasNoFault old → HasNoFault new
  pub stays : phase_in old.position ≡ phase.End → phase_in new.position ≡ phase.End

-- where a fault may be met: before the top's end, or once it was met, and then nothing changes
abbrev pub MeetsAt : Phase → PieceFinderState → Fault → PieceFinderState → Type 0
MeetsAt phase.Open old fault new = Unit {0}
MeetsAt phase.End old fault new = ⊥
MeetsAt (phase.Fault first) old fault new = (fault ≡ first) × (new ≡ old)

-- This fault was met, and is kept. No binding was given, and the finder may be called again.
pub record StopsAtFault (old : PieceFinderState) (fault : Fault) (new : PieceFinderState) : Type 0 where
  pub kept : new.position ≡ position.Fault fault
  pub met : MeetsAt (phase_in old.position) old fault new
  pub counts : CountsGiven old old.cursor.given new

-- So many bytes of a piece were taken: none where something was ready. Else some, if there are any, and all of them, unless
-- something is ready then.
pub record TakesSome (old : PieceFinderState) (piece : List ℕ) (n : ℕ) (new : PieceFinderState) : Type 0 where
  pub within : n ≤ length piece
  pub fed : fed_by new ≡ fed_by old + n
  pub waits : has_ready old ≡ true → (n ≡ 0) × (new ≡ old)
  pub some : n ≡ 0 → (piece ≡ []) ⊎ (has_ready old ≡ true)
  pub whole : has_ready new ≡ false → n ≡ length piece

-- what is known of a text once a piece was taken: where nothing is ready, no fault is decided
pub record KnowsFed (f : PieceFinderState) (text : List ℕ) (values : List BindingValue) : Type 0 where
  pub knows : KnowsText f text values
  pub undecided : has_ready f ≡ false → IsUndecided f text

-- The finder took so many bytes of a piece, and gave nothing. What is ready then begins with a new key.
pub record TakesFromPiece (old : PieceFinderState) (piece : List ℕ) (n : ℕ) (new : PieceFinderState) : Type 0 where
  pub takes : TakesSome old piece n new
  pub before : MayBeFed old
  pub after : MayBeFed new
  pub stays : phase_in old.position ≡ phase.End → phase_in new.position ≡ phase.End
  pub cursor : new.cursor ≡ old.cursor
  pub next_new : has_ready old ≡ false → IsNextNew new
  pub texts : InEachText old (take n piece) (KnowsFed new)

-- the text fed, with some of the piece, decides this fault
abbrev pub DecidesWithin : PieceFinderState → List ℕ → List ℕ → Fault → Type 0
DecidesWithin f piece text fault =
    (n : ℕ) × (n ≤ length piece) × DecidesFound (take (fed_by f + n) text) (options_for f) fault

-- The text fed, with some of the piece, decides this fault, after the bindings given; nothing was ready. The cursor stands
-- at the logical line that has it.
pub record MeetsFaultIn (old : PieceFinderState) (piece : List ℕ) (fault : Fault) (new : PieceFinderState) : Type 0 where
  pub stops : StopsAtFault old fault new
  pub none_ready : has_ready old ≡ false
  pub fed : fed_by new ≤ fed_by old + length piece
  pub open_yet : new.scanning.ended ≡ old.scanning.ended
  pub found : InEachText old piece (HasFoundIn new)
  pub decided : phase_in old.position ≡ phase.Open
      → InEachText old piece (λ text values. DecidesWithin old piece text fault)

-- A growth was refused: the finder means what it meant. Where something is ready, it holds what it held.
pub record PieceFinderRunsOut (old new : PieceFinderState) : Type 0 where
  pub unfed : IsFedNothing old new
  pub cursor : new.cursor ≡ old.cursor
  pub was_open : phase_in old.position ≡ phase.Open
  pub is_open : phase_in new.position ≡ phase.Open
  pub ready : has_ready new ≡ has_ready old
  pub scanning : has_ready old ≡ true → new.scanning ≡ old.scanning
  pub texts : OfEachText old (KnowsText new)

-- what a call that is fed a piece answers
abbrev pub FeedsPiece : PieceFinderState → List ℕ → Result ℕ FindError → PieceFinderState → Type 0
FeedsPiece old piece (Ok n) new = TakesFromPiece old piece n new
FeedsPiece old piece (Err (error.Fault fault)) new = MeetsFaultIn old piece fault new
FeedsPiece old piece (Err error.Memory) new = PieceFinderRunsOut old new × (has_ready old ≡ false)

-- What is known of a text once this binding was given: it is the next that is found, and settled before the text's end. The
-- cursor stands at its logical line, which is held.
pub record KnowsGiven (f : PieceFinderState) (b : BindingValue) (text : List ℕ) (values : List BindingValue) : Type 0 where
  pub found : HasFoundIn f text (values ++ b ∷ [])
  pub settled : f.scanning.ended ≡ false → AreSettled f text (values ++ b ∷ [])
  pub from : BindsFrom text f.cursor.offset b
  pub line : HoldsLine f text

-- this binding was given, which was ready, and what is ready then begins with a new key
pub record GivesBinding (old : PieceFinderState) (b : BindingValue) (new : PieceFinderState) : Type 0 where
  pub unfed : IsFedNothing old new
  pub counts : CountsGiven old (next_count old.cursor.given) new
  pub was_ready : has_ready old ≡ true
  pub is_open : phase_in new.position ≡ phase.Open
  pub next_new : IsNextNew new
  pub falls : due_by new < due_by old
  pub texts : OfEachText old (KnowsGiven new b)

-- these bindings are all that is found in the text, whose end is met at this byte
abbrev pub FindsAll : PieceFinderState → List ℕ → List BindingValue → ℕ → Type 0
FindsAll f text values offset = IsFound text (options_for f) values None × MeetsEndAt text (options_for f) offset

-- The cursor stands where the lines end that were read, which after the top is the line that ends it. Once the text or the
-- top is over, these bindings are all that is found.
pub record RestsIn (f : PieceFinderState) (text : List ℕ) (values : List BindingValue) : Type 0 where
  pub offset : f.cursor.offset ≡ f.scanning.place
  pub whole : IsOver f → FindsAll f text values f.cursor.offset

-- nothing is ready, and nothing was, except where that was left open; after a fault nothing changes
pub record GivesNone (old new : PieceFinderState) : Type 0 where
  pub unfed : IsFedNothing old new
  pub counts : CountsGiven old old.cursor.given new
  pub none_ready : has_ready new ≡ false
  pub unsure : has_ready old ≡ true → IsUnsure old
  pub after_fault : (fault : Fault) → old.position ≡ position.Fault fault → new ≡ old
  pub texts : OfEachText old (KnowsText new)
  pub rests : HasNoFault old → OfEachText old (RestsIn new)

-- the last logical line, which was left unread, is bad: before the text's end the bytes fed decide this fault
pub record GivesFault (old : PieceFinderState) (fault : Fault) (new : PieceFinderState) : Type 0 where
  pub stops : StopsAtFault old fault new
  pub unread : is_unread old.position ≡ true
  pub fed : fed_by new ≡ fed_by old
  pub open_yet : new.scanning.ended ≡ old.scanning.ended
  pub found : OfEachText old (HasFoundIn new)
  pub decided : old.scanning.ended ≡ false
      → OfEachText old (λ text values. DecidesFound (take (fed_by old) text) (options_for old) fault)

-- if no line was left unread, and the next binding had a new key, so has the next one now
abbrev pub StaysNew : PieceFinderState → PieceFinderState → Type 0
StaysNew old new = is_unread old.position ≡ false → IsNextNew old → IsNextNew new

-- what a call that asks for what is ready answers
abbrev pub GivesReady : PieceFinderState → Result (Option Binding) FindError → PieceFinderState → Type 0
GivesReady old (Ok (Some b)) new = GivesBinding old (binding_value b) new
GivesReady old (Ok None) new = GivesNone old new
GivesReady old (Err (error.Fault fault)) new = GivesFault old fault new
GivesReady old (Err error.Memory) new = PieceFinderRunsOut old new × (has_ready old ≡ true) × StaysNew old new

-- the text ends here: its last logical line was made, if one is left, and what is ready of it begins with a new key
pub record FinishesText (old new : PieceFinderState) : Type 0 where
  pub ended : IsOver new
  pub was_no_fault : HasNoFault old
  pub no_fault : HasNoFault new
  pub fed : fed_by new ≡ fed_by old
  pub cursor : new.cursor ≡ old.cursor
  pub next_new : IsNextNew new
  pub texts : InEachWhole old (KnowsText new)

-- the text that ends here has this fault, after the bindings given
pub record EndsInFault (old : PieceFinderState) (fault : Fault) (new : PieceFinderState) : Type 0 where
  pub stops : StopsAtFault old fault new
  pub fed : fed_by new ≡ fed_by old
  pub found : InEachWhole old (HasFoundIn new)

-- what a call that ends the text answers
abbrev pub EndsFeeding : PieceFinderState → Result (Unit {0}) FindError → PieceFinderState → Type 0
EndsFeeding old (Ok done) new = FinishesText old new
EndsFeeding old (Err (error.Fault fault)) new = EndsInFault old fault new
EndsFeeding old (Err error.Memory) new = PieceFinderRunsOut old new
