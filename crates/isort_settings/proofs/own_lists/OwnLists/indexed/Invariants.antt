-- The index is that of the lists so far.
use Rattle.std.proofs.Common.{take}
use Rattle.isort_settings.specs.OwnLists.{modules_of_lists, IsIndexOf}
use Rattle.isort_settings.proofs.own_lists.OwnLists.indexed.Given as goal

abbrev pub invariant-loop-place : goal.invariant-loop-place
invariant-loop-place l = IsIndexOf (modules_of_lists (take l.place l.list-items)) l.index.places
