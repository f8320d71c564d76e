-- After an item in brackets comes a comma, the closing bracket, or both.
use Rattle.py_imports.specs.Private.Lexemes.{unread_of}
use Rattle.py_imports.proofs.ReaderLemmas.{closing_by, comma_closing_by, out_of_brackets}
use Rattle.py_imports.proofs.items.ImportItems.after_bracketed.Goals as goal

pub returns-in-Closing : goal.returns-in-Closing
returns-in-Closing c = closing_by c.args.from (unread_of c.args.self.now.tokens) (unread_of c.next.new.self) (unread_of c.next.new.self) c.end_at.result c.in-Closing.ensures.lexeme c.end_at.ensures

pub returns-in-Closing-next : goal.returns-in-Closing-next
returns-in-Closing-next c = comma_closing_by c.args.from (unread_of c.args.self.now.tokens) (unread_of c.next.new.self) (unread_of c.next.new.self) _ c.end_at-in-Closing-next.result c.in-Comma.ensures.lexeme c.in-Closing-next.ensures.lexeme c.end_at-in-Closing-next.ensures

pub returns-in_default : goal.returns-in_default
returns-in_default c = out_of_brackets c.next.result (unread_of c.args.self.now.tokens) (unread_of c.next.new.self) c.next.ensures.lexeme c.in_default.not-Comma c.in_default.not-Closing
