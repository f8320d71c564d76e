-- What was passed is dots.
use Rattle.std.proofs.Common.{◌≡◌, length}
use Rattle.py_imports.specs.Private.Lexemes.{unread_of, IsFurther}
use Rattle.py_imports.proofs.ReadingLemmas.{DotsRead}
use Rattle.py_imports.proofs.lexemes.Lexemes.pass_dots.Given as goal

abbrev pub invariant-dots : goal.invariant-dots
invariant-dots l = record {
  dots : DotsRead l.dotted (unread_of l.fn.self) (unread_of l.self);
  same : l.after ≡ l.self;
  further : IsFurther l.fn.self l.self;
}

abbrev pub decreases-dots : goal.decreases-dots
decreases-dots l = length (unread_of l.self)
