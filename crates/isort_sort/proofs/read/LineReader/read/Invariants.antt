use Rattle.std.proofs.Common.{◌≡◌, ◌-◌, length}
use Rattle.isort_sort.specs.Private.Reading.{IsKnown}
use Rattle.isort_sort.proofs.read.LineReader.read.Given as goal

abbrev pub invariant-lines : goal.invariant-lines
invariant-lines l = record {
  markers : l.markers ≡ l.text;
  same : l.lines.text ≡ l.text;
  known : IsKnown l.lines l.self;
}

abbrev pub decreases-lines : goal.decreases-lines
decreases-lines l = length l.text - l.lines.place
