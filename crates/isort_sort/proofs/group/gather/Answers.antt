-- The map after the import's statement has what it brings.
use Rattle.std.proofs.Common.{rules, refl, ap, ◌∙◌}
use Rattle.std.specs.Prelude.{unwrap_or}
use Rattle.isort_sort.specs.Private.Gathered.{brought_value}
use Rattle.isort_sort.specs.contracts.statement.StatementOrd.TheImpl as ordered
use Rattle.isort_sort.proofs.Groups.Gathered.{statement_cmp, gathers}
use Rattle.isort_sort.proofs.group.gather.Goals as goal

pub returns : goal.returns
returns c =
    let e = c.in_ok-statements.ensures in
    let a = c.in_ok-add.ensures in
    gathers ordered.cmp-value.it statement_cmp c.args.statements.now.entries _ c.args.import.statement c.new.result c.or_insert-gathered.result.now c.add.new.self (brought_value c.args.import) (search rules) (c.or_insert-gathered.ensures.value ∙ ap (λ o. unwrap_or o c.new.result) e.value) c.new.ensures refl
    (λ i. record { items = a.items i; comments = a.comments i; above = a.above i })
