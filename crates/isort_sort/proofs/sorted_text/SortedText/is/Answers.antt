use Rattle.std.proofs.Common.{◌≡◌, ◌≢◌, MatchBool, List, ℕ, append-nil, ◌∙◌, subst, sym}
use Rattle.isort_sort.specs.Private.Compared.{IsCompared}
use Rattle.isort_sort.proofs.SortedTexts.OfParts.{bytes_all, bytes_more}
use Rattle.isort_sort.proofs.sorted_text.SortedText.is.Goals as goal

pub pieces-preserved : goal.pieces-preserved
pieces-preserved c =
    subst (λ (t : List ℕ). IsCompared c.args.text.now t c.take.new.self)
    (sym (bytes_more c.deref-piece-items.result.now c.pieces.piece-index c.piece-item.result _ c.pieces-test.true c.piece-item.is c.as_bytes.ensures))
    (c.take.ensures c.args.text.now _ c.pieces.invariant)

pub returns : goal.returns
returns c =
    subst (λ (t : List ℕ). MatchBool c.ends_with.result (t ≡ c.args.text.now) (t ≢ c.args.text.now))
    (append-nil _ ∙ bytes_all c.deref-piece-items.result.now c.args.self.now.pieces.items c.pieces.piece-index c.deref-piece-items.ensures.value c.pieces-test.false)
    (c.ends_with.ensures c.args.text.now _ c.pieces.invariant)
