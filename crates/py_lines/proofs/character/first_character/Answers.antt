use Rattle.std.proofs.lemmas.Grind.{common_steps}
use Rattle.py_lines.proofs.Prelude.{arith, nat_tests}
use Rattle.py_lines.proofs.Text.FirstCharacters.{first_of}
use Rattle.py_lines.proofs.character.first_character.Goals as goal

pub returns : goal.returns
returns c = grind (arith, first_of)

pub returns-then-is_ascii : goal.returns-then-is_ascii
returns-then-is_ascii c = grind (arith, common_steps)

pub char-bytes : goal.char-bytes
char-bytes c = grind arith

pub bounds-bytes-0-then-is_ascii : goal.bounds-bytes-0-then-is_ascii
bounds-bytes-0-then-is_ascii c = grind (arith, nat_tests)
