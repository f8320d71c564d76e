-- No `;` outside brackets was passed.
use Rattle.std.proofs.Common.{◌≡◌, ◌≤◌, ◌++◌, drop}
use Rattle.py_imports.specs.Statement.{significant}
use Rattle.py_imports.specs.Private.Parsing.{up_to_semicolon}
use Rattle.py_imports.proofs.TokenLemmas.{window}
use Rattle.py_imports.proofs.statement.statement_end.Given as goal

abbrev pub invariant-tokens : goal.invariant-tokens
invariant-tokens l = record {
  shallow : l.depth ≤ l.place;
  passed : up_to_semicolon 0 (significant (drop l.start l.tokens)) ≡ significant (window l.tokens l.start l.place) ++ up_to_semicolon l.depth (significant (drop l.place l.tokens));
}
