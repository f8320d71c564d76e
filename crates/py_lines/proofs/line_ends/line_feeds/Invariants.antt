use Rattle.py_lines.proofs.Prelude.{◌≡◌, ◌+◌, ◌≤◌, length, count_by}
use Rattle.memchr.specs.Find.{is_byte}
use Rattle.py_lines.proofs.line_ends.line_feeds.Given as goal

abbrev pub invariant-loop-rest : goal.invariant-loop-rest
invariant-loop-rest l = record {
  within : length l.rest ≤ length l.bytes;
  counted : l.count + count_by (is_byte 10) l.rest ≡ count_by (is_byte 10) l.bytes;
}

abbrev pub decreases-loop-rest : goal.decreases-loop-rest
decreases-loop-rest l = length l.rest
