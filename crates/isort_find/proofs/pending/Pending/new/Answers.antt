-- The first bindings are skipped.
use Rattle.std.proofs.Common.{◌∙◌, sym, ap, map, drop, min}
use Rattle.std.proofs.lemmas.List.{drop-map, drop_min}
use Rattle.py_imports.specs.BindingValue.{binding_value}
use Rattle.isort_find.proofs.pending.Pending.new.Goals as goal

pub returns-clause-left : goal.returns-clause-left
returns-clause-left c =
    let items = c.args.bindings.items in
    let count = c.min-taken.ensures ∙ ap (λ n. min c.args.taken n) (c.len.ensures ∙ c.args.bindings.ok.0) in
    ap (map binding_value) (c.skip_first.ensures.items ∙ (λ i. drop (count i) (c.from-bindings.ensures.0 i)) ∙ drop_min c.args.taken items) ∙ sym (drop-map binding_value c.args.taken items)
