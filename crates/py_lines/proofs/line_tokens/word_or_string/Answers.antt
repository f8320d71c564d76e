use Rattle.std.proofs.lemmas.Grind.{common_steps}
use Rattle.py_lines.proofs.Prelude.{arith, nat_tests}
use Rattle.py_lines.proofs.LineTokens.FirstPieces.{is_string, word_taken}
use Rattle.py_lines.proofs.line_tokens.word_or_string.Goals as goal

pub string_len-whole-requires-clause-string : goal.string_len-whole-requires-clause-string
string_len-whole-requires-clause-string c = λ p b. is_string b c.len_in-len.result c.requires.word c.len_in-len.ensures (search (arith))

pub returns : goal.returns
returns c = λ p b. word_taken b c.len_in-len.result _ c.requires.word c.len_in-len.ensures (λ told. grind (arith, told.1, told.2)) c.word_kind.ensures

pub string_len-whole-requires-clause-quote : goal.string_len-whole-requires-clause-quote
string_len-whole-requires-clause-quote c = grind (arith, common_steps)

pub bounds-bytes-0 : goal.bounds-bytes-0
bounds-bytes-0 c = grind (arith, nat_tests)
