-- The law is a lemma of proofs/Names.
use Rattle.py_imports.proofs.Names.{terminals_of_pieces, names_in_line}
use Rattle.py_imports.proofs.laws.names_are_words.Goals as goal

pub returns : goal.returns
returns c = record { words = terminals_of_pieces c.tokens_are_words.ensures.words; names = names_in_line c.tokens_are_words.ensures.words }
