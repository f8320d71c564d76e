-- One more group, and the end.
use Rattle.std.proofs.Common.{Bool, List, [], ◌∷◌, ◌++◌, refl, sym, ap, ◌∙◌, subst, append_assoc, append-nil}
use Rattle.std.specs.List.{IsDistinct}
use Rattle.std.proofs.lemmas.Map.Keys.{IsDistinct-from_sorted}
use Rattle.std.specs.BTreeMap.{keys}
use Rattle.isort_settings.specs.Values.{values}
use Rattle.isort_sort.specs.Private.Gathered.{AreMade}
use Rattle.isort_sort.specs.declared.group.Gathered as code_gathered
use Rattle.isort_sort.specs.declared.group.Group as code
use Rattle.isort_sort.specs.declared.statement.Statement as code_statement
use Rattle.isort_sort.proofs.Groups.Gathered.{statement_cmp}
use Rattle.isort_sort.proofs.group.groups_of.Goals as goal

abbrev Entries : Type 0
Entries = List (code_statement.Statement × code_gathered.Gathered)

pub loop-statement-preserved : goal.loop-statement-preserved
loop-statement-preserved c = λ others made.
    let v = values c.args.settings.now in
    let all = c.args.statements.entries in
    let group = c.in_ok-into_group.field-0 in
    let here = c.loop-statement.invariant (group ∷ others) (subst (λ (es : Entries). AreMade v es (group ∷ others)) (sym c.in-Some.ensures.steps) (group, others, refl, c.in_ok-into_group.ensures, made)) in
    subst (λ (gs : List code.Group). AreMade v all gs) (sym (ap (λ gs. gs ++ others) c.in_ok-push.ensures.items ∙ append_assoc c.loop-statement.groups.items (group ∷ []) others)) here

pub returns-clause-made : goal.returns-clause-made
returns-clause-made c =
    let v = values c.args.settings.now in
    let all = c.args.statements.entries in
    subst (λ (gs : List code.Group). AreMade v all gs) (append-nil c.loop-statement.groups.items) (c.loop-statement.invariant [] (subst (λ (es : Entries). AreMade v es []) (sym c.in-None.ensures.steps.0) refl))

pub returns-clause-distinct : goal.returns-clause-distinct
returns-clause-distinct c = subst (λ (e : code_statement.Statement → code_statement.Statement → Bool). IsDistinct e (keys c.args.statements)) (λ i a b. statement_cmp a b i) (IsDistinct-from_sorted _ _ c.len.ensures.ordered)
