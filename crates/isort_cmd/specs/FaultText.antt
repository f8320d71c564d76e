-- The line that a run's error prints.
use Rattle.std.specs.Prelude.{ℕ, List, [], ◌∷◌, ◌++◌, codes}
use Rattle.std.specs.Fmt.{decimal}
use Rattle.py_lines.specs.FaultWords.{fault_words}
use Rattle.isort_cmd.specs.declared.error.RunError.{RunError}
use Rattle.isort_cmd.specs.declared.error.RunError.TheVariants as run

-- the label and the words of an error
abbrev pub error_words : RunError → List ℕ
error_words run.Read = codes "R1 cannot be read"
error_words run.TooLong = codes "R2 is too long"
error_words run.Write = codes "R3 cannot be written"
error_words (run.Fault f) = fault_words f.kind
error_words run.Memory = codes "R5 out of memory"
error_words run.NeverEnds = codes "R6 reader never ends"

-- the line that tells that memory ran out where no file is to blame
abbrev pub memory_line : List ℕ
memory_line = codes "isort: R5 out of memory\n"

-- a fault is printed after the path and its line, any other error after the program's name and the path
abbrev pub error_line : List ℕ → RunError → List ℕ
error_line path (run.Fault f) = path ++ (codes ":" ++ (decimal f.line ++ (codes ": " ++ (error_words (run.Fault f) ++ 10 ∷ []))))
error_line path e = codes "isort: " ++ (path ++ (codes ": " ++ (error_words e ++ 10 ∷ [])))
