use Rattle.py_lines.proofs.Prelude.{arith}
use Rattle.py_lines.proofs.FieldScans.TextLengths.{plain_field, specified_field}
use Rattle.py_lines.proofs.whole_strings.field_len.Goals as goal
use Rattle.py_lines.proofs.whole_strings.field_len.Goals.{then-len-bytes+then-bytes-len-eq58, else-len-bytes}

pub returns : goal.returns
returns c = elim c.if-len-bytes.branch [
  | then-len-bytes+then-bytes-len-eq58 w ↦
      specified_field _ _ _ _ _ c.requires c.code_len-len.ensures w.if-len-bytes.true w.if-bytes-len-eq58.true w.len_in.ensures
      w.len-is (omega arith) (omega arith)
  | else-len-bytes w ↦ plain_field _ _ _ _ c.requires c.code_len-len.ensures w.len-is (omega arith) (omega arith)
]

pub overflow_add-result : goal.overflow_add-result
overflow_add-result c = grind arith

pub bounds-bytes-len-else-len-bytes-2 : goal.bounds-bytes-len-else-len-bytes-2
bounds-bytes-len-else-len-bytes-2 c = grind arith
