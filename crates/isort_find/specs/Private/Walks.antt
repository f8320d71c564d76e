-- How a walker goes from one state to the next.
use Rattle.std.specs.Prelude.{◌≡◌, ℕ, Option, None, Some, Result, Ok, Err, List, map}
use Rattle.py_lines.specs.LogicalLine.{LogicalLine}
use Rattle.py_lines.specs.declared.fault.Fault.{Fault}
use Rattle.py_imports.specs.BindingValue.{BindingValue, binding_value}
use Rattle.py_imports.specs.declared.binding.Binding.{Binding}
use Rattle.isort_find.specs.Cursor.{CursorState, BeginsNew}
use Rattle.isort_find.specs.Pending.{PendingState, pending_after}
use Rattle.isort_find.specs.Position.{skip_in, left_in}
use Rattle.isort_find.specs.Private.CursorMoves.{cursor_before}
use Rattle.isort_find.specs.Private.LooksAtBindings.{PassesBindings, TakesNextBinding}
use Rattle.isort_find.specs.Private.LineSteps.{Judges, Trial, TurnsOut, binding, ending, failing, lost}
use Rattle.isort_find.specs.declared.error.FindError.{FindError}
use Rattle.isort_find.specs.declared.error.FindError.TheVariants as error
use Rattle.isort_find.specs.declared.pending.LineStart.{LineStart}
use Rattle.isort_find.specs.declared.step.Step.{Step}
use Rattle.isort_find.specs.declared.step.Step.TheVariants as step
use Rattle.isort_find.specs.declared.walker.Position.{Position}
use Rattle.isort_find.specs.declared.walker.Position.TheVariants as position

-- where a walker stands, and the cursor at which it would stop
pub record WalkerState : Type 0 where
  pub position : Position
  pub cursor : CursorState

-- what a walker is seen as, by its fields
abbrev pub walker_state : Position → CursorState → WalkerState
walker_state at cursor = record { position = at; cursor = cursor }

-- it stands elsewhere
abbrev pub with_position : WalkerState → Position → WalkerState
with_position w at = record w { position = at }

-- the fault was met in the logical line that begins here
abbrev pub with_fault : WalkerState → LineStart → Fault → WalkerState
with_fault w start fault = walker_state (position.Fault fault) (cursor_before w.cursor start)

-- the bindings of the line that begins here are to be looked at, except those that were
abbrev pub with_bindings : WalkerState → LineStart → List BindingValue → WalkerState
with_bindings w start values = with_position w (position.Within (pending_after start (skip_in w.position) values))

-- where the logical line begins that was left unread
abbrev pub unread_in : Position → Option LineStart
unread_in (position.Unread start skip) = Some start
unread_in other = None

-- once the logical line read last is left
abbrev pub after_line : Position → Position
after_line (position.Within pending) = position.Between 0
after_line other = other

-- once the logical line that was left unread comes next
abbrev pub read_again : Position → Position
read_again (position.Unread start skip) = position.Between skip
read_again other = other

-- a binding with a new key comes next, or none is left
abbrev pub StandsAtNew : WalkerState → Type 0
StandsAtNew w = BeginsNew w.cursor (left_in w.position)

-- once the end was met, the byte up to which text was passed over after it
abbrev pub passed_in : Position → Option ℕ
passed_in (position.End passed) = Some passed
passed_in other = None

-- once text after the end was passed over up to this byte
abbrev pub passed_up_to : Position → ℕ → Position
passed_up_to (position.End passed) place = position.End place
passed_up_to other place = other

-- what becomes of a walker by what the logical line is that begins here
abbrev pub FollowsStep : WalkerState → LineStart → Step → Result (Unit {0}) FindError → WalkerState → Type 0
FollowsStep old start (step.Bindings bindings) result new =
    (result ≡ Ok tt) × (new ≡ with_bindings old start (map binding_value bindings.items))
FollowsStep old start step.Plain result new = (result ≡ Ok tt) × (new ≡ with_position old (position.Between 0))
FollowsStep old start step.End result new = (result ≡ Ok tt) × (new ≡ with_position old (position.End 0))
FollowsStep old start (step.Fault fault) result new = (result ≡ Err (error.Fault fault)) × (new ≡ with_fault old start fault)
FollowsStep old start step.LineLost result new =
    (result ≡ Err error.Memory) × (new ≡ with_position old (position.Unread start (skip_in old.position)))
FollowsStep old start step.NoMemory result new = (result ≡ Err error.Memory) × (new ≡ old)

-- the logical line that begins here was read, or memory ran out for it
pub record ReadsOrLosesLine (old : WalkerState) (line : LogicalLine) (start : LineStart) (result : Result (Unit {0}) FindError)
    (new : WalkerState) : Type 0 where
  pub step : Step
  pub judges : Judges old.cursor.options line step
  pub follows : FollowsStep old start step result new

-- inside a logical line bindings were looked at whose keys were given
pub record PassesFrom (pending : PendingState) (cursor : CursorState) (new : WalkerState) : Type 0 where
  pub rest : PendingState
  pub passes : PassesBindings cursor pending rest
  pub same : new ≡ walker_state (position.Within rest) cursor

-- so up to one with a new key, or to the line's end
pub record LooksAheadFrom (pending : PendingState) (cursor : CursorState) (new : WalkerState) : Type 0 where
  pub rest : PendingState
  pub passes : PassesBindings cursor pending rest
  pub next_new : BeginsNew cursor rest.left
  pub same : new ≡ walker_state (position.Within rest) cursor

-- the same, wherever the walker stands
abbrev pub LooksAheadAt : Position → CursorState → WalkerState → Type 0
LooksAheadAt (position.Within pending) cursor new = LooksAheadFrom pending cursor new
LooksAheadAt other cursor new = new ≡ walker_state other cursor

-- bindings were looked at whose keys were given
abbrev pub LooksAhead : WalkerState → WalkerState → Type 0
LooksAhead old new = LooksAheadAt old.position old.cursor new

-- what becomes of a walker that reads the line that begins here, or leaves it unread, which is no error
abbrev pub FollowsTrial : WalkerState → LineStart → Trial → Result (Unit {0}) FindError → WalkerState → Type 0
FollowsTrial old start (binding values) result new =
    (result ≡ Ok tt) × PassesFrom (pending_after start (skip_in old.position) values) old.cursor new
FollowsTrial old start ending result new = (result ≡ Ok tt) × (new ≡ with_position old (position.End 0))
FollowsTrial old start (failing fault) result new = (result ≡ Err (error.Fault fault)) × (new ≡ with_fault old start fault)
FollowsTrial old start lost result new =
    (result ≡ Ok tt) × (new ≡ with_position old (position.Unread start (skip_in old.position)))

-- the logical line that begins here was read, or was left unread, since memory ran out
pub record LearnsLine (old : WalkerState) (line : LogicalLine) (start : LineStart) (result : Result (Unit {0}) FindError)
    (new : WalkerState) : Type 0 where
  pub trial : Trial
  pub turns : TurnsOut old.cursor.options line trial
  pub follows : FollowsTrial old start trial result new

-- so, and bindings with known keys were passed over
pub record TriesLine (old : WalkerState) (line : LogicalLine) (start : LineStart) (result : Result (Unit {0}) FindError)
    (new : WalkerState) : Type 0 where
  pub learns : LearnsLine old line start result new
  pub next_new : StandsAtNew new

-- the next binding with a new key was taken of those that are left of a logical line
pub record TakesFromLine (pending : PendingState) (cursor : CursorState) (result : Result (Option Binding) FindError)
    (new : WalkerState) : Type 0 where
  pub rest : PendingState
  pub takes : TakesNextBinding cursor pending result new.cursor rest
  pub same : new ≡ walker_state (position.Within rest) new.cursor

-- the same, wherever the walker stands
abbrev pub TakesAt : Position → CursorState → Result (Option Binding) FindError → WalkerState → Type 0
TakesAt (position.Within pending) cursor result new = TakesFromLine pending cursor result new
TakesAt other cursor result new = (result ≡ Ok None) × (new ≡ walker_state other cursor)

-- the next binding of the logical line read last whose key wasn't given, or that there is none
abbrev pub TakesOne : WalkerState → Result (Option Binding) FindError → WalkerState → Type 0
TakesOne old result new = TakesAt old.position old.cursor result new
