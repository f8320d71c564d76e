use Rattle.std.proofs.Common.{ap, ◌∙◌}
use Rattle.isort_sort.proofs.Finding.Spans.{spans, blocks_of_found, none_of_skipped}
use Rattle.isort_sort.proofs.sort.blocks.Goals as goal

pub returns-in_ok-spans-in-Blocks-clause-ok : goal.returns-in_ok-spans-in-Blocks-clause-ok
returns-in_ok-spans-in-Blocks-clause-ok c =
    blocks_of_found c.args.text.now _ c.in-Blocks.found _ c.in_ok-found.ensures.ok c.in-Blocks.is
    (c.in_ok-spans-in-Blocks.ensures ∙ ap spans c.deref.ensures.value)

pub returns-in-Skipped-clause-ok : goal.returns-in-Skipped-clause-ok
returns-in-Skipped-clause-ok c = none_of_skipped c.args.text.now _ _ c.in_ok-found.ensures.ok c.in-Skipped.is c.new.ensures.items
