use Rattle.py_lines.proofs.Prelude.{length, ◌-◌}
use Rattle.py_lines.specs.Private.FieldText.{HasCode}
use Rattle.py_lines.proofs.whole_strings.code_len.Given as goal

abbrev pub invariant-loop-len : goal.invariant-loop-len
invariant-loop-len l = record { code : HasCode l.bytes l.len }

abbrev pub decreases-loop-len : goal.decreases-loop-len
decreases-loop-len l = length l.bytes - l.len
