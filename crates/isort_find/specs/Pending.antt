-- The bindings of the logical line read last that weren't looked at yet, as contracts see them.
use Rattle.std.specs.Prelude.{ℕ, List, length, map, min, drop}
use Rattle.py_imports.specs.BindingValue.{BindingValue, binding_value}
use Rattle.py_imports.specs.declared.binding.Binding.{Binding}
use Rattle.isort_find.specs.declared.pending.LineStart.{LineStart}

-- where the line begins, how many of its bindings were looked at, and those that are left
pub record PendingState : Type 0 where
  pub start : LineStart
  pub taken : ℕ
  pub left : List BindingValue

-- the bindings that are left, by the fields of a `Pending`
abbrev pub pending_state : LineStart → ℕ → List Binding → PendingState
pending_state start taken bindings = record { start = start; taken = taken; left = map binding_value bindings }

-- these bindings of the line are to be looked at, except so many that were
abbrev pub pending_after : LineStart → ℕ → List BindingValue → PendingState
pending_after start skip values = record { start = start; taken = min skip (length values); left = drop skip values }
