-- The spans of the blocks so far were taken.
use Rattle.std.proofs.Common.{◌≡◌, ◌++◌, drop}
use Rattle.isort_sort.proofs.Finding.Spans.{spans}
use Rattle.isort_sort.proofs.sort.spans.Given as goal

abbrev pub invariant-found : goal.invariant-found
invariant-found l = l.blocks.items ++ spans (drop l.block-index l.found) ≡ spans l.found
