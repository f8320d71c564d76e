use Rattle.py_lines.proofs.Prelude.{length, ◌-◌}
use Rattle.py_lines.proofs.FieldScans.TextLengths.{IsCodeCounted}
use Rattle.py_lines.proofs.whole_strings.simple_code_len.Given as goal

abbrev pub invariant-loop-text : goal.invariant-loop-text
invariant-loop-text l = record { counted : IsCodeCounted l.bytes l.len }

abbrev pub decreases-loop-text : goal.decreases-loop-text
decreases-loop-text l = length l.bytes - l.len
