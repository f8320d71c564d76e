-- What a logical line binds, or its fault.
use Rattle.std.specs.Prelude.{◌≡◌, ℕ, ◌+◌, true, false, List, [], ◌∷◌, ◌++◌, map, nat_lt, slice_range, ◌⊎◌}
use Rattle.py_lines.specs.LogicalLine.{LogicalLine}
use Rattle.py_lines.specs.declared.token.Token.{Token}
use Rattle.py_lines.specs.declared.fault.Fault.{Fault}
use Rattle.py_lines.specs.declared.fault.FaultKind.TheVariants.{BadImport}
use Rattle.py_imports.specs.Grammar.{Terminal, terminal_of, begins_import, Imported, IsImport}
use Rattle.py_imports.specs.Statement.{significant, TokenPlace, starts, statement_at}
use Rattle.py_imports.specs.BindingValue.{BindingValue, binding_at}
use Rattle.py_imports.specs.declared.error.ImportError.{ImportError}
use Rattle.py_imports.specs.declared.error.ImportError.TheVariants as import

-- a token of this text, as the import grammar sees it
abbrev pub terminal_in : List ℕ → Token → Terminal
terminal_in text t = terminal_of t.kind (slice_range text t.start t.stop)

-- the statement that starts here, as the import grammar sees it
abbrev pub terminals_at : LogicalLine → TokenPlace → List Terminal
terminals_at line p = map (terminal_in line.text) (statement_at p)

-- what the import grammar binds by the statement that starts here
abbrev pub values_at : LogicalLine → TokenPlace → List Imported → List BindingValue
values_at line p is = map (binding_at p.token.line (nat_lt 0 line.indent)) is

-- what the statement that starts here binds: nothing if it's no import statement, else what the grammar says
pub data BindsAt : LogicalLine → TokenPlace → List BindingValue → Type 0 where
  nothing : (line : LogicalLine) (p : TokenPlace) (values : List BindingValue) → begins_import (terminals_at line p) ≡ false
      → values ≡ [] → BindsAt line p values
  imports : (line : LogicalLine) (p : TokenPlace) (values : List BindingValue) (is : List Imported)
      → begins_import (terminals_at line p) ≡ true → IsImport (terminals_at line p) is → values ≡ values_at line p is
      → BindsAt line p values

-- an import statement outside the grammar starts here
pub record IsBadStart (line : LogicalLine) (p : TokenPlace) : Type 0 where
  pub begins : begins_import (terminals_at line p) ≡ true
  pub bad : (is : List Imported) → ¬ (IsImport (terminals_at line p) is)

-- what the statements bind that start at these places, none of them bad, in order
abbrev pub BindEach : LogicalLine → List TokenPlace → List BindingValue → Type 0
BindEach line [] values = values ≡ []
BindEach line (p ∷ ps) values =
    (first : List BindingValue) × (others : List BindingValue) × (values ≡ first ++ others) × BindsAt line p first × BindEach line ps others

-- what a logical line binds
abbrev pub Binds : LogicalLine → List BindingValue → Type 0
Binds line values = BindEach line (starts (significant line.tokens)) values

-- the fault of a logical line: its first bad statement
pub record IsBadAt (line : LogicalLine) (fault : Fault) : Type 0 where
  pub before : List TokenPlace
  pub start : TokenPlace
  pub after : List TokenPlace
  pub values : List BindingValue
  pub split : starts (significant line.tokens) ≡ before ++ start ∷ after
  pub good : BindEach line before values
  pub bad : IsBadStart line start
  pub place : fault ≡ record { kind = BadImport; offset = line.offset + start.token.start; line = start.token.line }

-- a logical line binds some list, or has a fault
abbrev pub BindsOrIsBad : LogicalLine → Type 0
BindsOrIsBad line = ((values : List BindingValue) × Binds line values) ⊎ ((fault : Fault) × IsBadAt line fault)

-- why a logical line gives no bindings
abbrev pub Refuses : LogicalLine → ImportError → Type 0
Refuses line import.Memory = Unit {0}
Refuses line (import.Fault fault) = IsBadAt line fault

-- the bindings of logical lines, none of them bad, in order
abbrev pub BindAll : List LogicalLine → List BindingValue → Type 0
BindAll [] values = values ≡ []
BindAll (line ∷ lines) values =
    (first : List BindingValue) × (others : List BindingValue) × (values ≡ first ++ others) × Binds line first × BindAll lines others
