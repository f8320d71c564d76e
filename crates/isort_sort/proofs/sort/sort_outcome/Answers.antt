use Rattle.std.proofs.Common.{◌++◌, ◌∙◌, Ok, sym, subst}
use Rattle.isort_settings.specs.Values.{values}
use Rattle.isort_sort.specs.Answers.{TellsOutcome}
use Rattle.isort_sort.specs.Private.Parts.{part_text, Makes}
use Rattle.isort_sort.proofs.SortedTexts.OfParts.{checked_early}
use Rattle.isort_sort.proofs.Orders.Statements.{AreOrders}
use Rattle.isort_sort.proofs.sort.sort_outcome.Goals as goal
use Rattle.isort_sort.proofs.sort.sort_outcome.Goals.{then-ends_with, else-ends_with}

pub returns-then-not-agrees : goal.returns-then-not-agrees
returns-then-not-agrees c =
    let v = values c.args.settings.now in
    let i = c.parts.invariant in
    let o : AreOrders v = record { modules = c.modules_are_totally_ordered.ensures.total v; exact_modules = c.modules_are_totally_ordered.ensures.equal v; names = c.names_are_totally_ordered.ensures.total v; exact_names = c.names_are_totally_ordered.ensures.equal v } in
    let makes = subst (λ p. Makes c.parts.parts p c.next.new.self) c.in-Some.is c.in_ok-part.ensures.makes in
    checked_early c.args.text.now v c.next.new.self (i.out ++ part_text c.in-Some.part) c.compare.new.compared o (makes.1 c.args.text.now v i.out i.made).1
    (c.in_ok-compare.ensures c.args.text.now i.out i.compared) (sym c.agrees.ensures ∙ c.if-not-agrees.true)

pub parts-preserved : goal.parts-preserved
parts-preserved c =
    let i = c.parts.invariant in
    let makes = subst (λ p. Makes c.parts.parts p c.next.new.self) c.in-Some.is c.in_ok-part.ensures.makes in
    record {
      out = i.out ++ part_text c.in-Some.part;
      made = (makes.1 c.args.text.now (values c.args.settings.now) i.out i.made).1;
      compared = c.in_ok-compare.ensures c.args.text.now i.out i.compared;
    }

pub returns : goal.returns
returns c =
    let v = values c.args.settings.now in
    let i = c.parts.invariant in
    let makes = subst (λ p. Makes c.parts.parts p c.next.new.self) c.in_default-2.is c.in_ok-part.ensures.makes in
    let laid = c.rest.ensures.laid c.args.text.now v i.out (makes.1 c.args.text.now v i.out i.made) makes.0 in
    elim c.if-ends_with.branch [
      | then-ends_with w ↦ subst (λ o. TellsOutcome c.args.text.now v (Ok o)) (sym w.result-is) (i.out ++ c.rest.result.now, (laid, w.if-ends_with.ensures c.args.text.now i.out i.compared))
      | else-ends_with w ↦ subst (λ o. TellsOutcome c.args.text.now v (Ok o)) (sym w.result-is) (i.out ++ c.rest.result.now, (laid, w.if-ends_with.ensures c.args.text.now i.out i.compared))
    ]

pub rest-requires : goal.rest-requires
rest-requires c =
    let v = values c.args.settings.now in
    let i = c.parts.invariant in
    let makes = subst (λ p. Makes c.parts.parts p c.next.new.self) c.in_default-2.is c.in_ok-part.ensures.makes in
    (c.args.text.now, v, i.out, makes.1 c.args.text.now v i.out i.made)
