-- A relative module is read, and the first item after it.
use Rattle.py_imports.specs.Private.Lexemes.{unread_of, lexemes_text}
use Rattle.py_imports.proofs.ReaderLemmas.{first_of_same, same_from, fewer_yet, relative_shorter}
use Rattle.py_imports.proofs.StatementLemmas.{from_none}
use Rattle.py_imports.proofs.items.ImportItems.from_item.Goals as goal

pub returns-in_err-names-clause-item : goal.returns-in_err-names-clause-item
returns-in_err-names-clause-item c = rw c.from_residual.ensures (from_none (unread_of c.args.self.now.tokens) c.in_err-names.ensures)

pub returns-clause-item : goal.returns-clause-item
returns-clause-item c = first_of_same _ _ _ _ (same_from (unread_of c.args.self.now.tokens) (unread_of c.relative_module.new.self) (lexemes_text c.in_ok-names.names) c.in_ok-names.ensures) c.first_item.ensures.item

pub returns-clause-fewer : goal.returns-clause-fewer
returns-clause-fewer c = fewer_yet c.first_item.result _ _ _ c.first_item.ensures.fewer (relative_shorter (unread_of c.args.self.now.tokens) (unread_of c.relative_module.new.self) (lexemes_text c.in_ok-names.names) c.in_ok-names.ensures)
