use Rattle.std.proofs.Common.{◌≡◌, ◌++◌, string_bytes, codes, drop}
use Rattle.isort_sort.proofs.Layouts.Writing.{following}
use Rattle.isort_sort.proofs.wrapping.push_remark.Given as goal
use denote.Shadow.{shadow}
use denote.Text.{Utf8}

abbrev pub invariant-loop-comment : goal.invariant-loop-comment
invariant-loop-comment l = record {
  text : string_bytes l.out ++ following string_bytes l.before (codes "; ") (drop l.comment-index l.comments) ≡ string_bytes l.initial.out ++ following string_bytes (codes "  # ") (codes "; ") l.comments;
  utf8 : shadow (Utf8 l.before);
}
