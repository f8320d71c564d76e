use Rattle.std.proofs.Common.{subst}
use Rattle.py_imports.specs.FirstWords.{EndsAtImport, NoImportBegins}
use Rattle.py_imports.proofs.first_words.FirstWords.clear_up_to.Goals as goal

pub returns-clause-none : goal.returns-clause-none
returns-clause-none c =
    let gap = c.gap_at-self-inside.result in
    subst (λ t. NoImportBegins t c.args.start gap.stop) c.self.view_is c.gap_at-self-inside.ensures.from.none

pub returns-clause-first : goal.returns-clause-first
returns-clause-first c =
    let gap = c.gap_at-self-inside.result in
    subst (λ t. EndsAtImport t c.args.start gap.stop) c.self.view_is c.gap_at-self-inside.ensures.from.first
