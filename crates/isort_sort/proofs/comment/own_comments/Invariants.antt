-- What the comments so far say was taken.
use Rattle.std.proofs.Common.{◌≡◌, map, take, string_bytes}
use Rattle.isort_sort.proofs.Rows.Comments.{said}
use Rattle.isort_sort.proofs.comment.own_comments.Given as goal

abbrev pub invariant-loop-comment : goal.invariant-loop-comment
invariant-loop-comment l = map string_bytes l.comments.items ≡ said (map string_bytes (take l.comment-index l.comment-items))
