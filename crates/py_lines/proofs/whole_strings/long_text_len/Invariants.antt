use Rattle.py_lines.proofs.Prelude.{length, ◌-◌}
use Rattle.py_lines.specs.Private.LongStrings.{TakesLong}
use Rattle.py_lines.specs.Private.Scan.{with_bytes}
use Rattle.py_lines.proofs.whole_strings.long_text_len.Given as goal

abbrev pub invariant-items : goal.invariant-items
invariant-items l = TakesLong with_bytes l.quote l.bytes l.len

abbrev pub decreases-items : goal.decreases-items
decreases-items l = length l.bytes - l.len
