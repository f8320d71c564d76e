-- How a cursor moves.
use Rattle.std.specs.Prelude.{◌≡◌, ℕ, Bool, not, [], ◌∷◌, ◌++◌, if◌then◌else◌}
use Rattle.py_imports.specs.BindingValue.{BindingValue}
use Rattle.isort_find.specs.Cursor.{CursorState, next_count, keys_of, knows_key}
use Rattle.isort_find.specs.declared.pending.LineStart.{LineStart}

-- the cursor takes in the key of a new binding
pub record Admits (old : CursorState) (b : BindingValue) (is_new : Bool) (new : CursorState) : Type 0 where
  pub answer : is_new ≡ not (knows_key old.options.unique old.keys b)
  pub same : new ≡ record old { keys = if is_new then old.keys ++ keys_of old.options.unique (b ∷ []) else old.keys }

-- once a binding was given of the logical line that begins here, the last of so many that were looked at
abbrev pub cursor_after : CursorState → LineStart → ℕ → CursorState
cursor_after old start taken =
    record old { offset = start.offset; line = start.line; taken = taken; given = next_count old.given }

-- before what begins here
abbrev pub cursor_before : CursorState → LineStart → CursorState
cursor_before old start = record old { offset = start.offset; line = start.line; taken = 0 }
