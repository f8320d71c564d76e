use Rattle.py_lines.proofs.Prelude.{arith}
use Rattle.py_lines.proofs.FieldScans.TextLengths.{text_begun, text_on}
use Rattle.py_lines.proofs.whole_strings.text_len.Goals as goal

pub loop-part-init : goal.loop-part-init
loop-part-init c = search (arith, text_begun)

pub loop-part-preserved : goal.loop-part-preserved
loop-part-preserved c = record { text = text_on _ _ _ _ _ c.loop-part.invariant.text c.in-Some.ensures.1 c.literal_run-len.ensures }
