-- What is learned from the next logical line.
use Rattle.std.specs.Prelude.{◌≡◌, ◌⊎◌, true, false, List, [], map}
use Rattle.py_lines.specs.LogicalLine.{LogicalLine}
use Rattle.py_lines.specs.Reader.{Reader, Continues, Ends, Fails, ReaderRunsOut}
use Rattle.py_lines.specs.declared.fault.Fault.{Fault}
use Rattle.py_imports.specs.BindingValue.{BindingValue, binding_value}
use Rattle.py_imports.specs.Binds.{Binds, IsBadAt}
use Rattle.isort_find.specs.Found.{ends_top}
use Rattle.isort_find.specs.declared.options.FindOptions.{FindOptions}
use Rattle.isort_find.specs.declared.step.Step.{Step}
use Rattle.isort_find.specs.declared.step.Step.TheVariants as step

-- one more logical line was given, and P says what it is
abbrev pub GivesLine : Reader → (LogicalLine → Type 0) → Reader → Type 0
GivesLine old P new = (line : LogicalLine) × Continues old line new × P line

-- what a step says of a logical line that was judged, which is never called plain
abbrev pub Judges : FindOptions → LogicalLine → Step → Type 0
Judges options line (step.Bindings bindings) = Binds line (map binding_value bindings.items) × (ends_top options line ≡ false)
Judges options line step.Plain = ⊥
Judges options line step.End = ends_top options line ≡ true
Judges options line (step.Fault fault) = IsBadAt line fault × (ends_top options line ≡ false)
Judges options line step.LineLost = Unit {0}
Judges options line step.NoMemory = ⊥

-- what a step says of the next logical line: none follows where the text ends or has a fault
abbrev pub StepsTo : FindOptions → Reader → Step → Reader → Type 0
StepsTo options old (step.Bindings bindings) new =
    GivesLine old (λ line. Binds line (map binding_value bindings.items) × (ends_top options line ≡ false)) new
StepsTo options old step.Plain new = GivesLine old (λ line. Binds line [] × (ends_top options line ≡ false)) new
StepsTo options old step.End new = GivesLine old (λ line. ends_top options line ≡ true) new ⊎ Ends old new
StepsTo options old (step.Fault fault) new =
    GivesLine old (λ line. IsBadAt line fault × (ends_top options line ≡ false)) new ⊎ Fails old fault new
StepsTo options old step.LineLost new = GivesLine old (λ line. Unit {0}) new
StepsTo options old step.NoMemory new = ReaderRunsOut old new

-- what a logical line turns out to be where it is tried: it binds these, ends the top, has this fault, or memory ran out
pub data Trial : Type 0 where
  binding : (values : List BindingValue) → Trial
  ending : Trial
  failing : (fault : Fault) → Trial
  lost : Trial

-- what that says of the line
abbrev pub TurnsOut : FindOptions → LogicalLine → Trial → Type 0
TurnsOut options line (binding values) = Binds line values × (ends_top options line ≡ false)
TurnsOut options line ending = ends_top options line ≡ true
TurnsOut options line (failing fault) = IsBadAt line fault × (ends_top options line ≡ false)
TurnsOut options line lost = Unit {0}
