-- The parts so far were made and compared, and blocks become fewer.
use Rattle.std.proofs.Common.{ℕ, List, length}
use Rattle.isort_settings.specs.Values.{values}
use Rattle.isort_sort.specs.Private.Compared.{IsCompared}
use Rattle.isort_sort.specs.Private.Parts.{parts_left, HasMade}
use Rattle.isort_sort.proofs.sort.sort_outcome.Given as goal

abbrev pub invariant-parts : goal.invariant-parts
invariant-parts l = record {
  out : List ℕ;
  made : HasMade l.text (values l.settings) l.parts out;
  compared : IsCompared l.text out l.compared;
}

abbrev pub decreases-parts : goal.decreases-parts
decreases-parts l = length (parts_left l.parts)
