use Rattle.std.proofs.Common.{◌++◌, flat_map, map, string_bytes, ap, sym, ◌∙◌, arith}
use Rattle.std.proofs.lemmas.List.{take_all}
use Rattle.std.proofs.lemmas.List.Folds.{flat_map-map}
use Rattle.isort_sort.proofs.layout.Layout.push_above.Goals as goal

pub returns : goal.returns
returns c =
    let out = string_bytes c.args.out.now in
    let indentation = c.args.self.now.indentation.now in
    let end = c.args.self.now.end.now in
    let above = c.args.above.now in
    c.loop-comment.invariant
    ∙ ap (λ cs. out ++ flat_map (λ c. (indentation ++ string_bytes c) ++ end) cs) (take_all c.loop-comment.comment-index above (omega arith))
    ∙ ap (λ t. out ++ t) (sym (flat_map-map (λ l. l ++ end) (λ t. indentation ++ t) (map string_bytes above) ∙ flat_map-map (λ t. (indentation ++ t) ++ end) string_bytes above))
