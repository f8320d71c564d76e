-- What contracts see of a finder, and what each of its answers leaves.
use Rattle.std.specs.Prelude.{◌≡◌, ℕ, ◌+◌, ◌-◌, ◌*◌, ◌^◌, ◌<◌, Option, None, Some, Result, Ok, Err, List, ◌∷◌, [], ◌++◌, length}
use Rattle.py_lines.specs.LogicalLine.{LogicalLine}
use Rattle.py_lines.specs.Reader.{Reader, HasGiven}
use Rattle.py_lines.specs.declared.fault.Fault.{Fault}
use Rattle.py_imports.specs.BindingValue.{BindingValue, binding_value}
use Rattle.py_imports.specs.declared.binding.Binding.{Binding}
use Rattle.isort_find.specs.Found.{IsFound}
use Rattle.isort_find.specs.Cursor.{CursorState, next_count, IsAfter, HasStopped}
use Rattle.isort_find.specs.Pending.{PendingState}
use Rattle.isort_find.specs.Position.{phase_in, left_in, IsInside, BindsFrom, MeetsEndAt, MeetsFaultAt, EndsInFaultAt}
use Rattle.isort_find.specs.declared.options.FindOptions.{FindOptions}
use Rattle.isort_find.specs.declared.error.FindError.{FindError}
use Rattle.isort_find.specs.declared.error.FindError.TheVariants as error
use Rattle.isort_find.specs.declared.walker.Position.{Position}
use Rattle.isort_find.specs.declared.walker.Position.TheVariants as position
use Rattle.isort_find.specs.declared.walker.Phase.TheVariants as phase

-- the reader of the text, where the finder stands, and the cursor at which it would stop
pub record FinderState : Type 0 where
  pub reader : Reader
  pub position : Position
  pub cursor : CursorState

-- what a finder is seen as, by its fields
abbrev pub finder_state : Reader → Position → CursorState → FinderState
finder_state reader at cursor = record { reader = reader; position = at; cursor = cursor }

-- the text of the finder
abbrev pub finder_text : FinderState → List ℕ
finder_text f = f.reader.text

-- the options of the finder
abbrev pub options_of : FinderState → FindOptions
options_of f = f.cursor.options

-- how far a reader has to go at most in a text of so many bytes: from its place, or back from a line left unread
abbrev pub bytes_to_read : Position → ℕ → ℕ → ℕ
bytes_to_read (position.Unread start skip) size place = size + 1
bytes_to_read other size place = size - place

-- how far the reader has to go at most, and then the bindings that are left: it falls with each import that is given
abbrev pub left_of : FinderState → ℕ
left_of f = bytes_to_read f.position (length (finder_text f)) f.reader.place * 2 ^ 64 + length (left_in f.position)

-- between two logical lines, the next of which the reader reads next; so many of its bindings were looked at
pub record IsBeforeLine (f : FinderState) (skip : ℕ) (values : List BindingValue) : Type 0 where
  pub no_fault : f.reader.fault ≡ None
  pub after : IsAfter (finder_text f) (options_of f) f.reader.place f.reader.line skip values

-- inside the logical line that the reader gave last
pub record IsInLine (f : FinderState) (pending : PendingState) (values : List BindingValue) : Type 0 where
  pub lines : List LogicalLine
  pub line : LogicalLine
  pub given : HasGiven f.reader (lines ++ line ∷ [])
  pub inside : IsInside (finder_text f) (options_of f) lines line pending values

-- where a finder has got
abbrev pub HasReached : FinderState → List BindingValue → Position → Type 0
HasReached f values (position.Between skip) = IsBeforeLine f skip values
HasReached f values (position.Unread start skip) = IsAfter (finder_text f) (options_of f) start.offset start.line skip values
HasReached f values (position.Within pending) = IsInLine f pending values
HasReached f values (position.End passed) =
    IsFound (finder_text f) (options_of f) values None × MeetsEndAt (finder_text f) (options_of f) f.cursor.offset
HasReached f values (position.Fault fault) = EndsInFaultAt (finder_text f) (options_of f) values f.cursor.offset fault

-- this finder, with those that it goes on from, has given just these bindings: the first that are found in its text
pub record HasFound (f : FinderState) (values : List BindingValue) : Type 0 where
  pub stopped : HasStopped (finder_text f) f.cursor values
  pub reached : HasReached f values f.position

-- the text and the options stay
pub record SameTask (old new : FinderState) : Type 0 where
  pub text : finder_text new ≡ finder_text old
  pub options : options_of new ≡ options_of old

-- this binding was given: the next that is found
pub record FindsNext (old : FinderState) (b : BindingValue) (new : FinderState) : Type 0 where
  pub found : (values : List BindingValue) → HasFound old values → HasFound new (values ++ b ∷ [])
  pub offset : (values : List BindingValue) → HasFound old values → BindsFrom (finder_text old) new.cursor.offset b
  pub task : SameTask old new
  pub given : new.cursor.given ≡ next_count old.cursor.given
  pub falls : left_of new < left_of old
  pub was_open : phase_in old.position ≡ phase.Open
  pub is_open : phase_in new.position ≡ phase.Open

-- from one state to another that has given the same
pub record KeepsGiven (old new : FinderState) : Type 0 where
  pub kept : (values : List BindingValue) → HasFound old values → HasFound new values
  pub task : SameTask old new
  pub given : new.cursor.given ≡ old.cursor.given

-- all was given, and the text has no fault that counts: so for good
pub record FindsEnd (old new : FinderState) : Type 0 where
  pub all : (values : List BindingValue) → HasFound old values → IsFound (finder_text old) (options_of old) values None
  pub offset : (values : List BindingValue) → HasFound old values → MeetsEndAt (finder_text old) (options_of old) new.cursor.offset
  pub keeps : KeepsGiven old new
  pub no_fault : (fault : Fault) → old.position ≡ position.Fault fault → ⊥
  pub ended : phase_in new.position ≡ phase.End

-- all before the text's fault was given: the fault comes for good
pub record FindsFault (old : FinderState) (fault : Fault) (new : FinderState) : Type 0 where
  pub all : (values : List BindingValue) → HasFound old values → IsFound (finder_text old) (options_of old) values (Some fault)
  pub offset : (values : List BindingValue) → HasFound old values → MeetsFaultAt (finder_text old) new.cursor.offset fault
  pub keeps : KeepsGiven old new
  pub no_end : phase_in old.position ≡ phase.End → ⊥
  pub again : (first : Fault) → old.position ≡ position.Fault first → fault ≡ first
  pub failed : new.position ≡ position.Fault fault

-- memory ran out: the same comes next, and the cursor stays
pub record FinderRunsOut (old new : FinderState) : Type 0 where
  pub kept : (values : List BindingValue) → HasFound old values → HasFound new values
  pub task : SameTask old new
  pub cursor : new.cursor ≡ old.cursor
  pub was_open : phase_in old.position ≡ phase.Open
  pub is_open : phase_in new.position ≡ phase.Open

-- what a call of `next_import` answers, from one state to the next
abbrev pub GivesNext : FinderState → Result (Option Binding) FindError → FinderState → Type 0
GivesNext old (Ok (Some b)) new = FindsNext old (binding_value b) new
GivesNext old (Ok None) new = FindsEnd old new
GivesNext old (Err (error.Fault fault)) new = FindsFault old fault new
GivesNext old (Err error.Memory) new = FinderRunsOut old new
