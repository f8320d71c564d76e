use Rattle.std.proofs.lemmas.Grind.{common_steps}
use Rattle.py_lines.proofs.Prelude.{arith, nat_tests}
use Rattle.py_lines.proofs.simple_line.pass_short_string.Goals as goal

pub returns-else-matches-2-clause-passed : goal.returns-else-matches-2-clause-passed
returns-else-matches-2-clause-passed c = grind (arith, nat_tests)

pub pass_text-requires-clause-quote : goal.pass_text-requires-clause-quote
pass_text-requires-clause-quote c = grind (arith, common_steps)

pub returns-else-matches-2-clause-string : goal.returns-else-matches-2-clause-string
returns-else-matches-2-clause-string c = grind arith

pub pass_text-requires-clause-plain : goal.pass_text-requires-clause-plain
pass_text-requires-clause-plain c = grind arith
