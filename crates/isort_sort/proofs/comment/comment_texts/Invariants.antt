-- The comments so far were taken.
use Rattle.std.proofs.Common.{◌≡◌, ◌++◌, map, drop, string_bytes}
use Rattle.isort_sort.proofs.Rows.Comments.{texts}
use Rattle.isort_sort.proofs.comment.comment_texts.Given as goal

abbrev pub invariant-tokens : goal.invariant-tokens
invariant-tokens l = map string_bytes l.comments.items ++ texts l.unit.text.now (drop l.place l.unit.tokens.now) ≡ texts l.unit.text.now l.unit.tokens.now
