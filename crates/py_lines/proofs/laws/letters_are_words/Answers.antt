use Rattle.py_lines.proofs.Letters.{letters_word}
use Rattle.py_lines.proofs.laws.letters_are_words.Goals as goal

pub returns : goal.returns
returns c = letters_word
