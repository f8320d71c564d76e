use Rattle.std.proofs.Common.{◌++◌, codes, map, string_bytes, ap, ◌∙◌}
use Rattle.isort_sort.specs.Private.LayoutTexts.{further_text, names_items, values_by}
use Rattle.isort_sort.specs.Wrapping.{head, four_spaces, remark, trailing_comma}
use Rattle.isort_sort.proofs.Layouts.Writing.{extend, last_extended, hung_in_brackets}
use Rattle.isort_sort.proofs.layout.Layout.push_hanging_in_brackets.Goals as goal

pub returns : goal.returns
returns c =
    let layout = c.args.self.now in
    let names = c.args.names in
    let further = c.in_ok-push_further.ensures ∙ ap (λ r. string_bytes c.push_line_end.new.out ++ further_text layout r (codes ",") (names_items names)) c.line_room.ensures in
    last_extended _ _ _ _ _ _ _
    (extend _ _ _ _ _ (extend _ _ _ _ _ c.in_ok-push_opening.ensures c.in_ok-push_line_end.ensures) further) c.push_closing.ensures
    (hung_in_brackets layout.indentation.now (head names.path.now) (codes "(") (remark (map string_bytes names.comments.now)) layout.end.now four_spaces _ (trailing_comma (values_by layout)) (codes ")"))
