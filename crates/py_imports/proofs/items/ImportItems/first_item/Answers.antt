-- What comes after `import` is `*`, an opening bracket, or a name.
use Rattle.std.proofs.Common.{ap, ◌∙◌}
use Rattle.py_imports.specs.Grammar.{attribute_of}
use Rattle.py_imports.specs.Private.Lexemes.{unread_of}
use Rattle.py_imports.specs.Private.Items.{path_of}
use Rattle.py_imports.proofs.NamesLemmas.{begins_plain, begins_plain-lexeme}
use Rattle.py_imports.proofs.ReaderLemmas.{first_of_same, same_in_brackets, plain_names_same, star_by}
use Rattle.py_imports.proofs.items.ImportItems.first_item.Goals as goal

pub returns-in-Star-clause-item : goal.returns-in-Star-clause-item
returns-in-Star-clause-item c = star_by c.args.from (unread_of c.args.self.now.tokens) (unread_of c.next.new.self) c.star_item.result c.star_item.new.self c.in-Star.ensures.lexeme c.star_item.ensures.item

pub returns-in-Opening-clause-item : goal.returns-in-Opening-clause-item
returns-in-Opening-clause-item c = first_of_same _ _ _ _ (same_in_brackets (attribute_of (path_of c.args.from)) (unread_of c.args.self.now.tokens) (unread_of c.next.new.self) c.in-Opening.ensures.lexeme) c.bracketed_item.ensures.item

pub returns-in_default-clause-item : goal.returns-in_default-clause-item
returns-in_default-clause-item c = first_of_same _ _ _ _ (plain_names_same (attribute_of (path_of c.args.from)) (unread_of c.args.self.now.tokens) (ap begins_plain c.next.ensures.lexeme ∙ begins_plain-lexeme c.next.result (unread_of c.next.new.self) c.in_default.not-Star c.in_default.not-Opening)) c.name_item.ensures.item
