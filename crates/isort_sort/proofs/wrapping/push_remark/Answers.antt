use Rattle.std.proofs.Common.{◌++◌, codes, string_bytes, refl, ap, ◌∙◌, arith}
use Rattle.isort_sort.proofs.Layouts.Writing.{following-more, following-all, following-remark}
use Rattle.isort_sort.proofs.wrapping.push_remark.Goals as goal

pub loop-comment-preserved : goal.loop-comment-preserved
unfolding lib.Utf8.encode
loop-comment-preserved c = record {
  text = following-more string_bytes _ (codes "; ") _ _ _ _ _ _ _ c.loop-comment-test.true c.comment-item.is c.in_ok-push_str.ensures.bytes (c.in_ok-push_str-2.ensures.bytes ∙ ap (λ t. string_bytes c.push_str.new.self ++ t) c.as_str.ensures.value) c.loop-comment.invariant.text;
  utf8 = (codes "; ", (refl, refl));
}

pub returns : goal.returns
returns c =
    following-all string_bytes _ (codes "; ") _ _ c.args.comments.now c.loop-comment.comment-index (omega arith) c.loop-comment.invariant.text
    ∙ ap (λ t. string_bytes c.args.out.now ++ t) (following-remark string_bytes c.args.comments.now)
