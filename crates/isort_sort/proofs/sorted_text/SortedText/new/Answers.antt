use Rattle.std.proofs.Common.{ap, ◌∙◌, subst, sym}
use Rattle.isort_settings.specs.Values.{values}
use Rattle.isort_sort.specs.Private.Parts.{bytes_of, HasMade, Makes}
use Rattle.isort_sort.specs.declared.sorted_text.Piece.TheVariants as piece
use Rattle.isort_sort.specs.Sorted.{IsLaidOut}
use Rattle.isort_sort.proofs.SortedTexts.OfParts.{bytes_push, texts_push}
use Rattle.isort_sort.proofs.sorted_text.SortedText.new.Goals as goal

pub parts-preserved : goal.parts-preserved
parts-preserved c =
    let v = values c.args.settings.now in
    let i = c.parts.invariant in
    let makes = subst (λ o. Makes c.parts.made o c.next.new.self) c.in-Some.is c.in_ok-part.ensures.makes in
    let m = makes.1 c.args.text.now v (bytes_of c.parts.pieces.items) i.made in
    record {
      made = subst (HasMade c.args.text.now v c.next.new.self) (sym c.in_ok-push_part.ensures.text) m.1;
      texts = c.in_ok-push_part.ensures.utf8 i.texts m.0;
    }

pub rest-requires : goal.rest-requires
rest-requires c =
    let v = values c.args.settings.now in
    let made = bytes_of c.parts.pieces.items in
    let makes = subst (λ o. Makes c.parts.made o c.next.new.self) c.in_default.is c.in_ok-part.ensures.makes in
    (c.args.text.now, v, made, makes.1 c.args.text.now v made c.parts.invariant.made)

pub returns : goal.returns
returns c =
    let v = values c.args.settings.now in
    let made = bytes_of c.parts.pieces.items in
    let makes = subst (λ o. Makes c.parts.made o c.next.new.self) c.in_default.is c.in_ok-part.ensures.makes in
    record {
      laid = subst (IsLaidOut c.args.text.now v) (sym (ap bytes_of c.in_ok-push.ensures.items ∙ bytes_push c.parts.pieces.items (piece.Kept c.rest.result)))
          (c.rest.ensures.laid c.args.text.now v made (makes.1 c.args.text.now v made c.parts.invariant.made) makes.0);
      utf8 = texts_push _ _ _ c.in_ok-push.ensures.items c.parts.invariant.texts (c.rest.ensures.utf8 makes.0);
    }
