use Rattle.py_lines.proofs.Prelude.{length, ◌-◌}
use Rattle.py_lines.specs.Private.FieldText.{HasText}
use Rattle.py_lines.proofs.whole_strings.text_len.Given as goal

abbrev pub invariant-loop-part : goal.invariant-loop-part
invariant-loop-part l = record { text : HasText l.quote l.bytes l.len }

abbrev pub decreases-loop-part : goal.decreases-loop-part
decreases-loop-part l = length l.bytes - l.len
