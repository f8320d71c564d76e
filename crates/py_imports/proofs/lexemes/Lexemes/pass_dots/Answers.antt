-- Each dot that is passed is one of a relative module.
use Rattle.std.proofs.Common.{refl, ap, sym, ◌∙◌}
use Rattle.py_imports.specs.Private.Lexemes.{unread_of}
use Rattle.py_imports.proofs.ReadingLemmas.{dots_dot}
use Rattle.py_imports.proofs.ReaderLemmas.{follows_on}
use Rattle.py_imports.proofs.lexemes.Lexemes.pass_dots.Goals as goal

pub dots-preserved : goal.dots-preserved
dots-preserved c = record {
  dots = dots_dot c.dots.dotted _ (unread_of c.dots.self) (unread_of c.next.new.self) c.dots.invariant.dots (ap unread_of (sym c.dots.invariant.same) ∙ c.in-Dot.ensures.lexeme);
  same = refl;
  further = follows_on _ _ _ c.dots.invariant.further (rw c.dots.invariant.same at c.next.ensures.further);
}
