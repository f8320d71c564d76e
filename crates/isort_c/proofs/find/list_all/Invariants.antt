use Rattle.isort_find.specs.Finder.{left_of, finder_text, options_of}
use Rattle.isort_c.proofs.FindLemmas.{HasListed}
use Rattle.isort_c.proofs.find.list_all.Given as goal

abbrev pub invariant-imports : goal.invariant-imports
invariant-imports l = HasListed (finder_text l.initial.finder) (options_of l.initial.finder) l.finder l.records.items

abbrev pub decreases-imports : goal.decreases-imports
decreases-imports l = left_of l.finder
