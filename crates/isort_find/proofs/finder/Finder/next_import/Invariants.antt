-- What was given before the call is what has been given so far.
use Rattle.isort_find.specs.Finder.{left_of}
use Rattle.isort_find.specs.Position.{phase_in}
use Rattle.isort_find.specs.Private.FinderSteps.{GoesThroughCall}
use Rattle.isort_find.proofs.Wholes.Calls.{work}
use Rattle.isort_find.proofs.finder.Finder.next_import.Given as goal

abbrev pub invariant-lines : goal.invariant-lines
invariant-lines l = GoesThroughCall l.initial.self l.self

abbrev pub decreases-lines : goal.decreases-lines
decreases-lines l = work (phase_in l.self.position) (left_of l.self)
