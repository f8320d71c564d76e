use Rattle.std.proofs.Common.{◌++◌, append_assoc, ap, ◌∙◌}
use Rattle.std.proofs.lemmas.Str.{IsUtf8-had}
use Rattle.isort_sort.specs.Private.Arranged.{text_left}
use Rattle.isort_sort.specs.Private.Parts.{bytes_of}
use Rattle.isort_sort.specs.declared.sorted_text.Piece.TheVariants as piece
use Rattle.isort_sort.proofs.SortedTexts.OfParts.{bytes_push, texts_push}
use Rattle.isort_sort.proofs.sorted_text.push_part.Goals as goal

pub returns : goal.returns
returns c = record {
  text =
      ap bytes_of c.in_ok-push-2.ensures.items
      ∙ bytes_push c.push.new.self.items (piece.Laid c.in_ok-text.text)
      ∙ (λ i. (ap bytes_of c.in_ok-push.ensures.items ∙ bytes_push c.args.pieces.now.items (piece.Kept c.args.part.before)) i ++ c.in_ok-text.ensures i)
      ∙ append_assoc (bytes_of c.args.pieces.now.items) c.args.part.before.now (text_left c.args.part.layout);
  utf8 = λ texts utf8. texts_push _ _ _ c.in_ok-push-2.ensures.items (texts_push _ _ _ c.in_ok-push.ensures.items texts utf8) (IsUtf8-had _ c.in_ok-text.text.ok);
}
