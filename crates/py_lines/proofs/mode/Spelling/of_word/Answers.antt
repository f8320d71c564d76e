use Rattle.std.proofs.lemmas.Grind.{common_steps}
use Rattle.py_lines.proofs.Prelude.{arith, sym}
use Rattle.py_lines.proofs.Machine.Spellings.{long_word}
use Rattle.py_lines.proofs.mode.Spelling.of_word.Goals as goal

pub returns-in_default-2 : goal.returns-in_default-2
returns-in_default-2 c = sym (long_word c.args.bytes.now c.in_default.len_at_least)

pub returns-in-len1 : goal.returns-in-len1
returns-in-len1 c = grind (arith, common_steps)

pub returns-in-len2 : goal.returns-in-len2
returns-in-len2 c = grind (arith, common_steps)

pub returns-in_default : goal.returns-in_default
returns-in_default c = grind (arith, common_steps)

pub char-d : goal.char-d
char-d c = grind arith

pub char-c-in-len2 : goal.char-c-in-len2
char-c-in-len2 c = grind arith

pub char-c : goal.char-c
char-c c = grind arith
