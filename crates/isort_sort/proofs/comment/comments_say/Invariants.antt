-- No comment so far says the action.
use Rattle.std.proofs.Common.{◌≡◌, drop}
use Rattle.isort_sort.proofs.Rows.Comments.{comments_say}
use Rattle.isort_sort.proofs.comment.comments_say.Given as goal

abbrev pub invariant-tokens : goal.invariant-tokens
invariant-tokens l = comments_say l.action l.unit.text.now l.unit.tokens.now ≡ comments_say l.action l.unit.text.now (drop l.place l.unit.tokens.now)
