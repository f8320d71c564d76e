-- What the errors of a run come from.
use Rattle.std.specs.Prelude.{◌≡◌, ⊤, Result, Ok, Err}
use Rattle.isort_find.specs.declared.error.FindError.{FindError}
use Rattle.isort_find.specs.declared.error.FindError.TheVariants as find
use Rattle.py_imports.specs.declared.error.ImportError.{ImportError}
use Rattle.py_imports.specs.declared.error.ImportError.TheVariants as import
use Rattle.isort_sort.specs.declared.answer.SortError.{SortError}
use Rattle.isort_sort.specs.declared.answer.SortError.TheVariants as sort
use Rattle.isort_sort.specs.declared.metered.Last.{Last}
use Rattle.isort_sort.specs.declared.metered.Last.TheVariants as last
use Rattle.isort_sort.specs.Metered.{IsGivenUp}
use Rattle.isort_cmd.specs.declared.error.RunError.{RunError}
use Rattle.isort_cmd.specs.declared.error.RunError.TheVariants as run

-- a fault of the text, or that memory ran out
abbrev pub run_error_of : FindError → RunError
run_error_of find.Memory = run.Memory
run_error_of (find.Fault f) = run.Fault f

-- the fault of a logical line, or that memory ran out
abbrev pub run_error_of_import : ImportError → RunError
run_error_of_import import.Memory = run.Memory
run_error_of_import (import.Fault f) = run.Fault f

-- why a text wasn't sorted: its fault, that memory ran out, or that a write failed
abbrev pub run_error_of_sort : SortError → RunError
run_error_of_sort sort.Memory = run.Memory
run_error_of_sort (sort.Fault f) = run.Fault f
run_error_of_sort sort.Write = run.Write

-- the errors of reading a text whole
abbrev pub IsInputError : RunError → Type 0
IsInputError (run.Fault f) = ⊥
IsInputError run.Write = ⊥
IsInputError _ = ⊤

-- the errors of a run that read no text whole
abbrev pub IsUnread : RunError → Type 0
IsUnread run.Read = ⊤
IsUnread run.TooLong = ⊤
IsUnread run.NeverEnds = ⊤
IsUnread _ = ⊥

-- how an error leaves the last call of a run's reader: failed where reading was, interrupted 1000 times in a row where reading
-- never ends, and else fine
abbrev pub LeavesReader : RunError → Last → Type 0
LeavesReader run.Read l = l ≡ last.Failed
LeavesReader run.NeverEnds l = l ≡ last.Interrupted 1000
LeavesReader _ l = l ≡ last.Fine

-- how an error leaves the last call of a run's writer: given up where writing failed, and else fine
abbrev pub LeavesWriter : RunError → Last → Type 0
LeavesWriter run.Write l = IsGivenUp l
LeavesWriter _ l = l ≡ last.Fine

-- how an answer leaves the last call of a run's reader: on success it is fine
abbrev pub EndsReading : {T : Type 0} → Result T RunError → Last → Type 0
EndsReading (Ok x) l = l ≡ last.Fine
EndsReading (Err e) l = LeavesReader e l

-- how an answer leaves the last call of a run's writer: on success it is fine
abbrev pub EndsWriting : {T : Type 0} → Result T RunError → Last → Type 0
EndsWriting (Ok x) l = l ≡ last.Fine
EndsWriting (Err e) l = LeavesWriter e l
