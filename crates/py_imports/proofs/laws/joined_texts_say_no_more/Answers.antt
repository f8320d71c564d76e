-- The law is a lemma of proofs/JoinedTexts.
use Rattle.py_imports.proofs.JoinedTexts.{says_a_part}
use Rattle.py_imports.proofs.laws.joined_texts_say_no_more.Goals as goal

pub returns : goal.returns
returns c = says_a_part
