use Rattle.py_lines.proofs.Prelude.{arith, nat_tests}
use Rattle.py_lines.proofs.LineScan.PlainStrings.{text_whole}
use Rattle.py_lines.proofs.whole_strings.whole_plain_string.Goals as goal

pub returns : goal.returns
returns c = text_whole c.args.bytes.now c.len_in-len.result c.requires.begins c.len_in-len.ensures (omega arith) (omega arith) (omega arith)

pub slice_bounds-len_in-count : goal.slice_bounds-len_in-count
slice_bounds-len_in-count c = grind (arith, nat_tests)

pub bounds-bytes-0 : goal.bounds-bytes-0
bounds-bytes-0 c = grind arith
