use Rattle.std.proofs.Common.{◌≡◌, ◌∙◌, rules}
use Rattle.std.specs.List.{count_by}
use Rattle.isort_sort.specs.Width.{begins_character}
use Rattle.isort_sort.proofs.Layouts.Widths.{count_by-begins}
use Rattle.isort_sort.proofs.width.width.Goals as goal

pub returns-clause-value : goal.returns-clause-value
returns-clause-value c =
    let e : c.count.result ≡ count_by begins_character c.args.text.now = search rules in
    e ∙ count_by-begins c.args.text.now
