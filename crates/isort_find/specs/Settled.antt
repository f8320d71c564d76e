-- What the bytes that are known of a text settle of what is found in it, whatever follows them.
use Rattle.std.specs.Prelude.{ℕ, ◌⊎◌, Option, None, Some, List, ◌∷◌, ◌++◌}
use Rattle.py_lines.specs.LogicalLine.{LogicalLine}
use Rattle.py_lines.specs.Settled.{IsSettled, Decides}
use Rattle.py_lines.specs.declared.fault.Fault.{Fault}
use Rattle.py_imports.specs.BindingValue.{BindingValue}
use Rattle.py_imports.specs.Binds.{IsBadAt}
use Rattle.isort_find.specs.Found.{counted_lines, AreFound, IsFound}
use Rattle.isort_find.specs.declared.options.FindOptions.{FindOptions}

-- what is found in the logical lines that these bytes settle, and the fault of the first bad one, if one is
pub record IsFoundSettled (known : List ℕ) (options : FindOptions) (values : List BindingValue) (bad : Option Fault) : Type 0 where
  pub lines : List LogicalLine
  pub settled : IsSettled known lines
  pub found : AreFound options.unique (counted_lines options lines) None values bad

-- one of the logical lines that these bytes settle has this fault
pub record SettlesBadLine (known : List ℕ) (fault : Fault) : Type 0 where
  pub before : List LogicalLine
  pub line : LogicalLine
  pub after : List LogicalLine
  pub settled : IsSettled known (before ++ line ∷ after)
  pub bad : IsBadAt line fault

-- what is found in these bytes ends in this fault, and stays so, whatever follows them
pub record DecidesFound (known : List ℕ) (options : FindOptions) (fault : Fault) : Type 0 where
  pub values : List BindingValue
  pub found : IsFound known options values (Some fault)
  pub stays : Decides known fault ⊎ SettlesBadLine known fault
