use Rattle.std.proofs.lemmas.Grind.{common_steps}
use Rattle.py_lines.specs.Private.LongStrings.{TakesLong}
use Rattle.py_lines.specs.Private.Passing.{TellsFields, tail_of}
use Rattle.py_lines.specs.Private.Scan.{passed}
use Rattle.py_lines.proofs.Prelude.{◌+◌, ◌-◌, Some, arith, drop, refl, slice_index, subst, take, rest_is}
use Rattle.py_lines.proofs.passing.long_string_end.Goals as goal

pub overflow_add-result : goal.overflow_add-result
overflow_add-result c = omega (arith, c.requires.within, c.well_formed)

pub returns : goal.returns
returns c =
    let bytes = c.args.bytes.now in
    let (from, at) : _ × _ = (c.args.from, c.args.at) in
    record {
      before = subst (λ b. TellsFields (tail_of (take (at - from) (drop from bytes))) (Some b)) c.in-Some-false.field-0-test c.in-Some-false.ensures;
      len = c.in_ok-len.len;
      size = refl;
      text = subst (λ xs. TakesLong passed (slice_index bytes at) xs c.in_ok-len.len) (rest_is bytes (at + 3)) c.in_ok-len.ensures;
    }

pub returns-in_default : goal.returns-in_default
returns-in_default c = grind (arith, common_steps)

pub returns-in_default-2 : goal.returns-in_default-2
returns-in_default-2 c = grind (arith, common_steps)

pub returns-in_err-len : goal.returns-in_err-len
returns-in_err-len c = grind (arith, common_steps)

pub char-bytes : goal.char-bytes
char-bytes c = grind arith
