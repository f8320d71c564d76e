use Rattle.py_lines.proofs.Lexings.Prefixes.{both_of, some_lexing_of}
use Rattle.py_lines.proofs.laws.one_lexing.Goals as goal

pub returns-clause-some : goal.returns-clause-some
returns-clause-some c = some_lexing_of

pub returns-clause-one_list : goal.returns-clause-one_list
returns-clause-one_list c = λ text lines others end other one two. (both_of text lines others end other one two).0

pub returns-clause-one_end : goal.returns-clause-one_end
returns-clause-one_end c = λ text lines others end other one two. (both_of text lines others end other one two).1
