-- A statement ends before the last token if a `;` stands outside brackets.
use Rattle.py_imports.proofs.ShapeLemmas.{divided}
use Rattle.py_imports.proofs.sortable.is_divided.Goals as goal

pub returns : goal.returns
returns c = divided c.args.tokens.now c.statement_end.result c.statement_end.ensures.within c.statement_end.ensures.tokens c.statement_end.ensures.semicolon
