use Rattle.std.proofs.Common.{ap, ◌∙◌}
use Rattle.isort_sort.specs.Line.{without_end, stripped}
use Rattle.isort_sort.proofs.Rows.Comments.{hash_cut, start_is, end_is}
use Rattle.isort_sort.proofs.comment.content.Goals as goal

pub returns : goal.returns
returns c =
    let text = ap (λ x. x.now) c.unwrap_or-text.ensures ∙ hash_cut c.args.comment c.strip_prefix.result c.strip_prefix.ensures.cases in
    end_is _ _ c.trim_end_matches.ensures.matches ∙ ap without_end (start_is _ _ c.trim_start_matches.ensures.matches) ∙ ap stripped text
