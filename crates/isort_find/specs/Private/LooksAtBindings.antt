-- How the bindings of a logical line are looked at.
use Rattle.std.specs.Prelude.{◌≡◌, ◌+◌, true, Option, None, Some, Result, Ok, Err, List, [], ◌∷◌, ◌++◌, length}
use Rattle.std.specs.List.{list_all}
use Rattle.py_imports.specs.BindingValue.{BindingValue, binding_value}
use Rattle.py_imports.specs.declared.binding.Binding.{Binding}
use Rattle.isort_find.specs.Cursor.{CursorState, knows_key, BeginsNew}
use Rattle.isort_find.specs.Pending.{PendingState}
use Rattle.isort_find.specs.Private.CursorMoves.{Admits, cursor_after}
use Rattle.isort_find.specs.declared.error.FindError.{FindError}
use Rattle.isort_find.specs.declared.error.FindError.TheVariants as error

-- one more was looked at
pub record Looks (old : PendingState) (b : BindingValue) (new : PendingState) : Type 0 where
  pub left : old.left ≡ b ∷ new.left
  pub start : new.start ≡ old.start
  pub taken : new.taken ≡ old.taken + 1

-- bindings were looked at whose keys were given before
pub record PassesBindings (s : CursorState) (old new : PendingState) : Type 0 where
  pub dropped : List BindingValue
  pub split : old.left ≡ dropped ++ new.left
  pub known : list_all (knows_key s.options.unique s.keys) dropped ≡ true
  pub start : new.start ≡ old.start
  pub taken : new.taken ≡ old.taken + length dropped

-- after such bindings one with a new key was taken
pub record TakesNew (s : CursorState) (old : PendingState) (b : BindingValue) (t : CursorState) (new : PendingState) : Type 0 where
  pub between : PendingState
  pub admitted : CursorState
  pub passes : PassesBindings s old between
  pub looks : Looks between b new
  pub admits : Admits s b true admitted
  pub gives : t ≡ cursor_after admitted new.start new.taken

-- what is taken of the bindings that are left
abbrev pub TakesNextBinding : CursorState → PendingState → Result (Option Binding) FindError → CursorState → PendingState → Type 0
TakesNextBinding s old (Ok (Some b)) t new = TakesNew s old (binding_value b) t new
TakesNextBinding s old (Ok None) t new = PassesBindings s old new × (new.left ≡ []) × (t ≡ s)
TakesNextBinding s old (Err e) t new = PassesBindings s old new × (t ≡ s) × (e ≡ error.Memory) × (new.left ≡ [] → ⊥)

-- what is passed over of the bindings that are left, up to one with a new key
abbrev pub PassesKnown : CursorState → PendingState → PendingState → Type 0
PassesKnown s old new = PassesBindings s old new × BeginsNew s new.left
