use Rattle.py_lines.proofs.Prelude.{[]}
use Rattle.py_lines.proofs.LogicalLines.Words.{words_after, same_extents}
use Rattle.py_lines.proofs.laws.tokens_are_words.Goals as goal

pub returns : goal.returns
returns c = record {
  words = λ offset line ps. words_after [] line ps;
  anywhere = λ offset line place row ps. same_extents 0 line row ps;
}
