use Rattle.std.proofs.Common.{[], ◌∷◌, ◌++◌, codes, map, string_bytes, ap, ◌∙◌}
use Rattle.isort_sort.specs.Private.LayoutTexts.{further_text, names_items}
use Rattle.isort_sort.specs.Wrapping.{head, four_spaces, remark}
use Rattle.isort_sort.proofs.Layouts.Writing.{extend, last_extended, hung}
use Rattle.isort_sort.proofs.layout.Layout.push_hanging.Goals as goal

pub returns : goal.returns
returns c =
    let layout = c.args.self.now in
    let names = c.args.names in
    let further = c.in_ok-push_further.ensures ∙ ap (λ r. string_bytes c.push_str.new.self ++ further_text layout r (codes ", " ++ 92 ∷ []) (names_items names)) c.line_room.ensures in
    last_extended _ _ _ _ _ _ _
    (extend _ _ _ _ _ (extend _ _ _ _ _ c.in_ok-push_opening.ensures c.in_ok-push_str.ensures.bytes) further) c.push_line_end.ensures
    (hung layout.indentation.now (head names.path.now) (92 ∷ []) layout.end.now four_spaces _ (remark (map string_bytes names.comments.now)))
