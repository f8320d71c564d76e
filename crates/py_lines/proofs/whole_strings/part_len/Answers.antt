use Rattle.py_lines.proofs.Prelude.{arith, refl, nat_tests, is_brace, is_break}
use Rattle.py_lines.proofs.FieldScans.TextLengths.{brace_part, field_part, two_part}
use Rattle.py_lines.proofs.FieldScans.Texts.{escape_leads, two_lead}
use Rattle.py_lines.proofs.whole_strings.part_len.Goals as goal

pub returns-in-125 : goal.returns-in-125
returns-in-125 c = (omega arith, brace_part _ _ (omega arith) (omega arith))

pub returns-in-125-2 : goal.returns-in-125-2
returns-in-125-2 c = (omega arith, brace_part _ _ (omega arith) (omega arith))

pub returns-in-92-2 : goal.returns-in-92-2
unfolding is_break is_brace
returns-in-92-2 c = (omega arith, two_part c.args.quote 92 _ _ (omega arith) (omega arith) refl (escape_leads c.args.quote _ (grind (arith, nat_tests))))

pub returns-in-92-2-2 : goal.returns-in-92-2-2
returns-in-92-2-2 c = (omega arith, two_part c.args.quote 123 123 c.args.bytes.now (omega arith) (omega arith) (omega arith) (two_lead c.args.quote))

pub returns-in_ok-field_len-in-123 : goal.returns-in_ok-field_len-in-123
returns-in_ok-field_len-in-123 c = (omega arith, field_part _ _ _ (grind arith) (grind arith) c.in_ok-field_len-in-123.ensures)

pub returns-in_err-field_len-in-123 : goal.returns-in_err-field_len-in-123
returns-in_err-field_len-in-123 c = grind (arith, nat_tests)

pub bounds-bytes-1-in-123-bytes-2 : goal.bounds-bytes-1-in-123-bytes-2
bounds-bytes-1-in-123-bytes-2 c = grind arith

pub bounds-bytes-1-in_default-bytes-3 : goal.bounds-bytes-1-in_default-bytes-3
bounds-bytes-1-in_default-bytes-3 c = grind arith

pub bounds-bytes-1 : goal.bounds-bytes-1
bounds-bytes-1 c = grind arith

pub field_len-requires : goal.field_len-requires
field_len-requires c = grind arith
