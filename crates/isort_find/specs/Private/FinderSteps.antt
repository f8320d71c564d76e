-- How a finder that has the whole text goes from one state to the next within a call.
use Rattle.std.specs.Prelude.{◌≡◌, ℕ, ◌<◌, ◌≤◌, ◌⊎◌, false, Option, None, Some, Result, Ok, Err, List, [], map}
use Rattle.py_lines.specs.Reader.{GoesOnAt}
use Rattle.py_imports.specs.BindingValue.{BindingValue, binding_value}
use Rattle.py_imports.specs.declared.binding.Binding.{Binding}
use Rattle.isort_find.specs.Finder.{FinderState, HasFound, KeepsGiven, FindsNext, FinderRunsOut, finder_state, finder_text, left_of}
use Rattle.isort_find.specs.Pending.{pending_after}
use Rattle.isort_find.specs.Position.{phase_in, left_in, skip_in, is_unread}
use Rattle.isort_find.specs.Private.CursorMoves.{cursor_before}
use Rattle.isort_find.specs.Private.Walks.{WalkerState, walker_state}
use Rattle.isort_find.specs.declared.error.FindError.{FindError}
use Rattle.isort_find.specs.declared.error.FindError.TheVariants as error
use Rattle.isort_find.specs.declared.pending.LineStart.{LineStart}
use Rattle.isort_find.specs.declared.step.Step.{Step}
use Rattle.isort_find.specs.declared.step.Step.TheVariants as step
use Rattle.isort_find.specs.declared.walker.Position.{Position}
use Rattle.isort_find.specs.declared.walker.Position.TheVariants as position
use Rattle.isort_find.specs.declared.walker.Phase.TheVariants as phase

-- the walker of a finder
abbrev pub walker_in : FinderState → WalkerState
walker_in f = walker_state f.position f.cursor

-- nothing is left of the line read last
pub record LooksThrough (old new : FinderState) : Type 0 where
  pub keeps : KeepsGiven old new
  pub none : left_in new.position ≡ []
  pub cursor : new.cursor ≡ old.cursor
  pub falls : left_of new ≤ left_of old
  pub is_open : phase_in new.position ≡ phase.Open

-- the next binding of the line read last with a new key, or that there is none
abbrev pub GivesNew : FinderState → Result (Option Binding) FindError → FinderState → Type 0
GivesNew old (Ok (Some b)) new = FindsNext old (binding_value b) new
GivesNew old (Ok None) new = LooksThrough old new
GivesNew old (Err e) new = FinderRunsOut old new × (e ≡ error.Memory)

-- the reader goes back to the logical line that begins here, which was left unread
pub record GoesBackTo (start : LineStart) (skip : ℕ) (old new : FinderState) : Type 0 where
  pub goes_on : GoesOnAt (finder_text old) start.offset start.line new.reader
  pub text : finder_text new ≡ finder_text old
  pub same : new ≡ finder_state new.reader (position.Between skip) old.cursor

-- the reader stands where it reads the next logical line
abbrev pub GoesBackFrom : Position → FinderState → FinderState → Type 0
GoesBackFrom (position.Unread start skip) old new = GoesBackTo start skip old new
GoesBackFrom other old new = new ≡ old

-- the same, from where the finder stands
abbrev pub GoesBack : FinderState → FinderState → Type 0
GoesBack old new = GoesBackFrom old.position old new

-- it has given the same, and its reader reads the next logical line
pub record StandsBefore (old new : FinderState) : Type 0 where
  pub found : (values : List BindingValue) → HasFound old values → HasFound new values
  pub is_open : phase_in new.position ≡ phase.Open
  pub none : left_in new.position ≡ []
  pub read : is_unread new.position ≡ false
  pub text : finder_text new ≡ finder_text old
  pub cursor : new.cursor ≡ old.cursor
  pub falls : left_of new ≤ left_of old

-- the bindings of the line that begins here are to be looked at, except those that were
abbrev pub with_line : FinderState → LineStart → List BindingValue → FinderState
with_line f start values = record f { position = position.Within (pending_after start (skip_in f.position) values) }

-- the end or a fault was met in the line that begins here
abbrev pub ended_at_line : FinderState → LineStart → Position → FinderState
ended_at_line f start at = finder_state f.reader at (cursor_before f.cursor start)

-- the line that begins here has to be read again
abbrev pub with_line_again : FinderState → LineStart → FinderState
with_line_again f start = record f { position = position.Unread start (skip_in f.position) }

-- what becomes of a finder by a step that was read of the line that begins here
abbrev pub FollowsRead : FinderState → LineStart → Step → Result (Unit {0}) FindError → FinderState → Type 0
FollowsRead old start (step.Bindings bindings) result new =
    (result ≡ Ok tt) × (new ≡ with_line old start (map binding_value bindings.items))
FollowsRead old start step.Plain result new = (result ≡ Ok tt) × (new ≡ record old { position = position.Between 0 })
FollowsRead old start step.End result new = (result ≡ Ok tt) × (new ≡ ended_at_line old start (position.End 0))
FollowsRead old start (step.Fault fault) result new = (result ≡ Ok tt) × (new ≡ ended_at_line old start (position.Fault fault))
FollowsRead old start step.LineLost result new = (result ≡ Err error.Memory) × (new ≡ with_line_again old start)
FollowsRead old start step.NoMemory result new = (result ≡ Err error.Memory) × (new ≡ old)

-- the next logical line was read, or the end or a fault was met
pub record ReadsOn (old new : FinderState) : Type 0 where
  pub keeps : KeepsGiven old new
  pub falls : phase_in new.position ≡ phase.Open → left_of new < left_of old
  pub cursor : phase_in new.position ≡ phase.Open → new.cursor ≡ old.cursor

-- what comes of reading the next logical line
abbrev pub ReadsNextLine : FinderState → Result (Unit {0}) FindError → FinderState → Type 0
ReadsNextLine old (Ok _) new = ReadsOn old new
ReadsNextLine old (Err e) new = FinderRunsOut old new × (e ≡ error.Memory)

-- from one state of a call of `next_import` to another
pub record GoesThroughCall (old new : FinderState) : Type 0 where
  pub keeps : KeepsGiven old new
  pub falls : phase_in new.position ≡ phase.Open → left_of new ≤ left_of old
  pub cursor : phase_in new.position ≡ phase.Open → new.cursor ≡ old.cursor
  pub start : (phase_in old.position ≡ phase.Open) ⊎ (new ≡ old)
