use Rattle.py_lines.proofs.Prelude.{arith, ◌∙◌}
use Rattle.py_lines.specs.Private.FieldText.{is_code_bracket}
use Rattle.py_lines.proofs.FieldScans.TextLengths.{code_begun, code_on}
use Rattle.py_lines.proofs.whole_strings.code_len.Goals as goal

pub loop-len-init : goal.loop-len-init
loop-len-init c = search (arith, code_begun)

pub loop-len-preserved : goal.loop-len-preserved
unfolding is_code_bracket
loop-len-preserved c = record {
  code = code_on _ _ _ _ c.loop-len.invariant.code c.loop-len-test.true (grind arith) c.simple_code_len.ensures (omega arith)
      (c.if-bytes-end.false ∙ c.closing_of.ensures) c.simple_code_len-in-loop-len.ensures;
}

pub char-bytes-else-end-bytes : goal.char-bytes-else-end-bytes
char-bytes-else-end-bytes c = grind arith

pub overflow_add-len-in-loop-len-2 : goal.overflow_add-len-in-loop-len-2
overflow_add-len-in-loop-len-2 c = grind arith

pub char-bytes : goal.char-bytes
char-bytes c = grind arith

pub slice_bounds-simple_code_len-start-in-loop-len : goal.slice_bounds-simple_code_len-start-in-loop-len
slice_bounds-simple_code_len-start-in-loop-len c = grind arith

pub slice_bounds-simple_code_len-count-in-loop-len : goal.slice_bounds-simple_code_len-count-in-loop-len
slice_bounds-simple_code_len-count-in-loop-len c = grind arith

pub overflow_add-len-in-loop-len : goal.overflow_add-len-in-loop-len
overflow_add-len-in-loop-len c = grind arith

pub overflow_add-end-in-loop-len-2 : goal.overflow_add-end-in-loop-len-2
overflow_add-end-in-loop-len-2 c = grind arith

pub bounds-bytes-end : goal.bounds-bytes-end
bounds-bytes-end c = grind arith
