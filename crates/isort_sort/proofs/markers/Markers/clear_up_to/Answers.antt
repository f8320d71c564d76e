use Rattle.std.proofs.Common.{◌≤◌, length, sym, ◌∙◌, subst}
use Rattle.py_imports.specs.FirstWords.{NoImportBegins}
use Rattle.isort_sort.proofs.markers.Markers.clear_up_to.Goals as goal

pub clear_up_to-requires : goal.clear_up_to-requires
clear_up_to-requires c = subst (λ t. c.args.start ≤ length t) (sym (c.self.invariant.0 ∙ c.self.view_is)) c.requires

pub returns-clause-none : goal.returns-clause-none
returns-clause-none c = subst (λ t. NoImportBegins t c.args.start c.clear_up_to.result) (c.self.invariant.0 ∙ c.self.view_is) c.clear_up_to.ensures.none
