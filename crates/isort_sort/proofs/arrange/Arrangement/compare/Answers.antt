-- The text goes on with the next piece, or in another way.
use Rattle.std.proofs.Common.{◌≡◌, ◌++◌, ◌∙◌, Bool, false, MatchBool, ℕ, List, [], ap, refl, sym, subst, append-nil}
use Rattle.isort_sort.specs.Private.Arranged.{text_left}
use Rattle.isort_sort.specs.Private.Compared.{Takes}
use Rattle.isort_sort.proofs.SortedTexts.Comparing.{takes_all, takes_both, takes_nothing}
use Rattle.isort_sort.proofs.SortedTexts.OfParts.{regrouped}
use Rattle.isort_sort.proofs.arrange.Arrangement.compare.Goals as goal

pub pieces-init : goal.pieces-init
pieces-init c = record { ready = c.requires; empty = c.clear.ensures.bytes; done = []; takes = takes_nothing c.args.compared.now; text = refl }

pub returns-then-not-agrees : goal.returns-then-not-agrees
returns-then-not-agrees c =
    let i = c.pieces.invariant in
    let p = c.in_ok-push_next.ensures.piece in
    let is : c.as_bytes.result.now ≡ p.0 = c.as_bytes.ensures.value ∙ p.1 ∙ ap (λ (t : List ℕ). t ++ p.0) i.empty in
    let taken = takes_both c.args.compared.now c.pieces.compared c.take.new.self i.done p.0 i.takes (subst (λ (t : List ℕ). Takes c.pieces.compared t c.take.new.self) is c.take.ensures) in
    subst (λ (t : List ℕ). Takes c.args.compared.now t c.take.new.self)
    (sym (regrouped (text_left c.args.self.now) i.done p.0 (text_left c.push_next.new.self) (i.text ∙ ap (λ (t : List ℕ). i.done ++ t) p.2)))
    (takes_all c.args.compared.now c.take.new.self (i.done ++ p.0) (text_left c.push_next.new.self) taken (sym c.agrees.ensures ∙ c.if-not-agrees.true))

pub pieces-preserved : goal.pieces-preserved
pieces-preserved c =
    let i = c.pieces.invariant in
    let p = c.in_ok-push_next.ensures.piece in
    let is : c.as_bytes.result.now ≡ p.0 = c.as_bytes.ensures.value ∙ p.1 ∙ ap (λ (t : List ℕ). t ++ p.0) i.empty in
    record {
      ready = c.in_ok-push_next.ensures.ready;
      empty = c.clear-in-pieces.ensures.bytes;
      done = i.done ++ p.0;
      takes = takes_both c.args.compared.now c.pieces.compared c.take.new.self i.done p.0 i.takes (subst (λ (t : List ℕ). Takes c.pieces.compared t c.take.new.self) is c.take.ensures);
      text = regrouped (text_left c.args.self.now) i.done p.0 (text_left c.push_next.new.self) (i.text ∙ ap (λ (t : List ℕ). i.done ++ t) p.2);
    }

none_more : (more : Bool) (P : Type 0) (left : List ℕ) → MatchBool more P (left ≡ []) → more ≡ false → left ≡ []
none_more more P left h none = rw none at h

pub returns : goal.returns
returns c =
    let i = c.pieces.invariant in
    let all : text_left c.args.self.now ≡ i.done = i.text ∙ ap (λ (t : List ℕ). i.done ++ t) (none_more _ _ _ c.in_ok-push_next.ensures.more c.if-branch.false) ∙ append-nil i.done in
    subst (λ (t : List ℕ). Takes c.args.compared.now t c.pieces.compared) (sym all) i.takes
