use Rattle.std.proofs.lemmas.Grind.{common_steps}
use Rattle.py_lines.proofs.Prelude.{arith, is_mark}
use Rattle.py_lines.proofs.FieldScans.CodeItems.{mark_taken, nothing_waits, piece_grows}
use Rattle.py_lines.proofs.Text.FirstCharacters.{first_size}
use Rattle.py_lines.proofs.scan.Scan.take_in_code.Goals as goal

pub returns-in_default : goal.returns-in_default
returns-in_default c = λ t follow. nothing_waits c.args.self.now t c.args.bytes.now follow c.requires.code c.in_default.ensures

pub returns-then-c-eq65279 : goal.returns-then-c-eq65279
unfolding is_mark
returns-then-c-eq65279 c = λ t follow. rw c.pass.ensures
    (mark_taken c.args.self.now t c.args.bytes.now c.in-Some.c follow c.in-Some.ensures (grind arith) (grind (arith, c.if-c-eq65279.true)) c.len_utf8-len.result c.len_utf8-len.ensures.value)

pub returns-in-Some-with : goal.returns-in-Some-with
returns-in-Some-with c = λ t follow.
    piece_grows c.args.self.now t c.args.bytes.now c.in-Some.c follow c.in-Some.ensures c.in-Some-with.mode c.with.result c.with.ensures c.in-Some-with.is c.len_utf8-len.result c.len_utf8-len.ensures.value

pub overflow_add-self : goal.overflow_add-self
overflow_add-self c = omega (arith, first_size c.in-Some.ensures, c.len_utf8-len.ensures.value, c.requires.bytes)

pub pass-requires : goal.pass-requires
pass-requires c = grind (arith, common_steps)
