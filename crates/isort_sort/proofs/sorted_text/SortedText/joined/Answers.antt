use Rattle.std.proofs.Common.{◌++◌, sym, ap, ◌∙◌, subst}
use Rattle.std.specs.Str.{IsUtf8}
use Rattle.isort_sort.specs.Private.Parts.{piece_bytes, AreTexts}
use Rattle.isort_sort.proofs.SortedTexts.OfParts.{bytes_all, bytes_more}
use Rattle.isort_sort.proofs.sorted_text.SortedText.joined.Goals as goal

pub text_of-requires : goal.text_of-requires
text_of-requires c =
    let texts = subst AreTexts (sym c.deref-piece-items.ensures.value) c.requires in
    subst IsUtf8 (ap piece_bytes (sym c.piece-item.is) ∙ sym c.as_bytes.ensures) (texts c.pieces.piece-index c.piece-item.result c.pieces-test.true)

pub pieces-preserved : goal.pieces-preserved
pieces-preserved c =
    c.in_ok-push_str.ensures.bytes
    ∙ (λ i. c.pieces.invariant i ++ c.text_of.ensures i)
    ∙ sym (bytes_more c.deref-piece-items.result.now c.pieces.piece-index c.piece-item.result _ c.pieces-test.true c.piece-item.is c.as_bytes.ensures)

pub returns : goal.returns
returns c = c.pieces.invariant ∙ bytes_all c.deref-piece-items.result.now c.args.self.now.pieces.items c.pieces.piece-index c.deref-piece-items.ensures.value c.pieces-test.false
