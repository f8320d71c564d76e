-- The errors of the crates below, as errors of sorting. No public clause of `sort_code` names these.
use Rattle.py_lines.specs.declared.fault.LexError.{LexError}
use Rattle.py_lines.specs.declared.fault.LexError.TheVariants as lex
use Rattle.py_imports.specs.declared.error.ImportError.{ImportError}
use Rattle.py_imports.specs.declared.error.ImportError.TheVariants as import
use Rattle.isort_sort.specs.declared.answer.SortError.{SortError}
use Rattle.isort_sort.specs.declared.answer.SortError.TheVariants as error

abbrev pub sort_error_of : LexError → SortError
sort_error_of lex.Memory = error.Memory
sort_error_of (lex.Fault fault) = error.Fault fault

abbrev pub sort_error_of_import : ImportError → SortError
sort_error_of_import import.Memory = error.Memory
sort_error_of_import (import.Fault fault) = error.Fault fault
