use Rattle.py_lines.proofs.Prelude.{arith}
use Rattle.std.proofs.lemmas.Grind.{common_steps}
use Rattle.py_lines.proofs.whole_strings.begins_plain_string.Goals as goal

pub returns-then-at-eq0 : goal.returns-then-at-eq0
returns-then-at-eq0 c = grind (arith, common_steps)

pub returns-else-at-eq0 : goal.returns-else-at-eq0
returns-else-at-eq0 c = grind (arith, common_steps)

pub returns-else-is_quote : goal.returns-else-is_quote
returns-else-is_quote c = grind (arith, common_steps)

pub bounds-bytes-at-else-at-eq0 : goal.bounds-bytes-at-else-at-eq0
bounds-bytes-at-else-at-eq0 c = grind arith
