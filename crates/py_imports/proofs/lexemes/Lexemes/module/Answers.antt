-- What is read is a module, as long as can be.
use Rattle.std.proofs.Common.{ap, ◌∙◌}
use Rattle.py_imports.specs.Private.Lexemes.{unread_of, begins_dot}
use Rattle.py_imports.proofs.ReadingLemmas.{names_none, names_dot, names_last, no_dot-lexeme}
use Rattle.py_imports.proofs.ReaderLemmas.{follows_on, further_same}
use Rattle.py_imports.proofs.lexemes.Lexemes.module.Goals as goal

pub names-init : goal.names-init
names-init c = record { names = names_none (unread_of c.args.self.now); further = further_same c.args.self.now }

pub names-preserved : goal.names-preserved
names-preserved c = record {
  names = names_dot _ (unread_of c.names.self) (unread_of c.next.new.self) (unread_of c.next-in-names.new.self) c.in-Name.field-0.now c.names.invariant.names c.in-Name.ensures.lexeme c.in-Dot.ensures.lexeme;
  further = follows_on _ _ _ c.names.invariant.further (follows_on _ _ _ c.next.ensures.further c.next-in-names.ensures.further);
}

pub returns-in_default-next : goal.returns-in_default-next
returns-in_default-next c = record {
  path = names_last (unread_of c.args.self.now) (unread_of c.names.self) (unread_of c.next.new.self) (unread_of c.since.result) c.in-Name.field-0.now c.names.invariant.names c.in-Name.ensures.lexeme (ap begins_dot c.next-in-names.ensures.lexeme ∙ no_dot-lexeme c.next-in-names.result (unread_of c.next-in-names.new.self) c.in_default-next.not-Dot) c.since.ensures;
  further = follows_on _ _ _ c.names.invariant.further c.next.ensures.further;
}
