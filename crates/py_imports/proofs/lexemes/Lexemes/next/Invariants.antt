-- Only comments were passed.
use Rattle.std.proofs.Common.{◌≡◌, ◌-◌, ◌≤◌}
use Rattle.py_imports.specs.Private.Lexemes.{unread_of}
use Rattle.py_imports.proofs.lexemes.Lexemes.next.Given as goal

abbrev pub invariant-loop-self : goal.invariant-loop-self
invariant-loop-self l = record {
  unit : l.self.unit ≡ l.initial.self.unit;
  end : l.self.end ≡ l.initial.self.end;
  place : l.initial.self.place ≤ l.self.place;
  rest : unread_of l.self ≡ unread_of l.initial.self;
}

abbrev pub decreases-loop-self : goal.decreases-loop-self
decreases-loop-self l = l.self.end - l.self.place
