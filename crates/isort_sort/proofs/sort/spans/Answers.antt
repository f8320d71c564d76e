use Rattle.std.proofs.Common.{refl}
use Rattle.isort_sort.proofs.Finding.Spans.{all_taken}
use Rattle.isort_sort.proofs.sort.spans.Goals as goal

pub returns : goal.returns
returns c = all_taken c.args.found.now c.args.found.now _ _ refl c.found.invariant c.found-test.false
