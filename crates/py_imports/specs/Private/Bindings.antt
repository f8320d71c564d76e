-- What the program has bound of a statement.
use Rattle.std.specs.Prelude.{◌≡◌, ℕ, ◌+◌, Bool, Some, List, [], ◌∷◌, ◌++◌, map, drop, slice_get}
use Rattle.py_imports.specs.Grammar.{begins_import, Imported}
use Rattle.py_imports.specs.Statement.{significant, TokenPlace}
use Rattle.py_imports.specs.Binds.{terminal_in, BindsAt, IsBadStart}
use Rattle.py_imports.specs.BindingValue.{BindingValue, binding_at, binding_value}
use Rattle.py_imports.specs.declared.binding.Binding.{Binding}
use Rattle.py_imports.specs.declared.bindings.Head.{Head}
use Rattle.py_imports.specs.declared.error.ImportError.{ImportError}
use Rattle.py_imports.specs.declared.error.ImportError.TheVariants as error
use Rattle.py_lines.specs.LogicalLine.{LogicalLine}
use Rattle.py_lines.specs.declared.fault.Fault.{Fault}
use Rattle.py_lines.specs.declared.fault.FaultKind.TheVariants.{BadImport}
use Rattle.py_lines.specs.declared.token.Token.{Token}

-- whether a token of this text is spelled as the first word of an import statement
abbrev pub is_first_word : List ℕ → Token → Bool
is_first_word text t = begins_import (terminal_in text t ∷ [])

-- an import of one of these lists was read, and its bindings put after others
pub record BindsOne (Are : List Imported → Type 0) (head : Head) (old new : List Binding) : Type 0 where
  pub imported : List Imported
  pub are : Are imported
  pub adds : map binding_value new ≡ map binding_value old ++ map (binding_at head.line head.indented) imported

-- why the items of a statement weren't bound: the fault that was to be answered, where it has no such list
abbrev pub RefusesItems : (List Imported → Type 0) → Fault → ImportError → Type 0
RefusesItems Are fault error.Memory = Unit {0}
RefusesItems Are fault (error.Fault other) = (other ≡ fault) × ((is : List Imported) → ¬ (Are is))

-- the place of a token in a list, up to what stands before it
abbrev pub IsPlaceAt : List Token → ℕ → TokenPlace → Type 0
IsPlaceAt tokens i p = (slice_get tokens i ≡ Some p.token) × (p.after ≡ significant (drop (i + 1) tokens))

-- the fault of a bad statement that starts with this token, in a line that begins at this byte of the text
abbrev pub statement_fault : ℕ → Token → Fault
statement_fault offset t = record { kind = BadImport; offset = offset + t.start; line = t.line }

-- what the statement that starts here binds was put after others
pub record BindsMore (line : LogicalLine) (p : TokenPlace) (old new : List Binding) : Type 0 where
  pub values : List BindingValue
  pub binds : BindsAt line p values
  pub adds : map binding_value new ≡ map binding_value old ++ values

-- the same of the statement that starts with the token at this place
abbrev pub BindsMoreAt : LogicalLine → ℕ → List Binding → List Binding → Type 0
BindsMoreAt line i old new = (p : TokenPlace) → IsPlaceAt line.tokens i p → BindsMore line p old new

-- why the statement that starts here wasn't bound
abbrev pub RefusesAt : LogicalLine → TokenPlace → ImportError → Type 0
RefusesAt line p error.Memory = Unit {0}
RefusesAt line p (error.Fault fault) = IsBadStart line p × (fault ≡ statement_fault line.offset p.token)
