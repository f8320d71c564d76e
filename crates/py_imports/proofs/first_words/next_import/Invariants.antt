-- No import statement begins before the place.
use Rattle.std.proofs.Common.{◌-◌, ◌≤◌, length}
use Rattle.py_imports.specs.FirstWords.{NoImportBegins}
use Rattle.py_imports.proofs.first_words.next_import.Given as goal

abbrev pub invariant-words : goal.invariant-words
invariant-words l = record {
  further : l.start ≤ l.place;
  within : l.place ≤ length l.text;
  none : NoImportBegins l.text l.start l.place;
}

abbrev pub decreases-words : goal.decreases-words
decreases-words l = length l.text - l.place
