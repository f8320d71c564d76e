-- What was read is the beginning of the module.
use Rattle.std.proofs.Common.{length}
use Rattle.py_imports.specs.Private.Lexemes.{unread_of, IsFurther}
use Rattle.py_imports.proofs.ReadingLemmas.{NamesRead}
use Rattle.py_imports.proofs.lexemes.Lexemes.module.Given as goal

abbrev pub invariant-names : goal.invariant-names
invariant-names l = record {
  names : NamesRead (unread_of l.start) (unread_of l.self);
  further : IsFurther l.start l.self;
}

abbrev pub decreases-names : goal.decreases-names
decreases-names l = length (unread_of l.self)
