use Rattle.std.proofs.Common.{◌∙◌, ap, Ok, Err}
use Rattle.std.proofs.lemmas.Result.{err_from_is_err_and}
use Rattle.isort_find.specs.Finder.{finder_text, options_of}
use Rattle.isort_c.proofs.FindLemmas.{listed_some, listed_error}
use Rattle.isort_c.proofs.find.list_all.Goals as goal

pub imports-preserved-in_ok-push_binding : goal.imports-preserved-in_ok-push_binding
imports-preserved-in_ok-push_binding c =
    listed_some (finder_text c.args.finder.now) (options_of c.args.finder.now) c.imports.finder c.next_import.new.self c.next_import.result c.in-Some.binding _ _ c.imports.invariant c.next_import.ensures.next (c.in_ok-binding.was ∙ ap Ok c.in-Some.is) c.in_ok-push_binding.ensures

pub imports-preserved : goal.imports-preserved
imports-preserved c =
    listed_some (finder_text c.args.finder.now) (options_of c.args.finder.now) c.imports.finder c.next_import.new.self c.next_import.result c.in-Some.binding _ _ c.imports.invariant c.next_import.ensures.next (c.in_ok-binding.was ∙ ap Ok c.in-Some.is) c.in_ok-push_binding.ensures

pub returns-in_err-binding : goal.returns-in_err-binding
returns-in_err-binding c =
    let p = err_from_is_err_and c.from_residual.result c.from_residual.ensures.1 in
    listed_error (finder_text c.args.finder.now) (options_of c.args.finder.now) c.imports.finder c.next_import.new.self c.next_import.result c.in_err-binding.field-0.0 c.from_residual.result _ c.imports.invariant c.next_import.ensures.next c.in_err-binding.was (p.1 ∙ ap Err p.2)
