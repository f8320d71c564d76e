-- No token so far is such a word.
use Rattle.std.proofs.Common.{◌≡◌, drop}
use Rattle.std.specs.List.{list_any}
use Rattle.py_imports.specs.Private.Bindings.{is_first_word}
use Rattle.py_imports.proofs.bindings.has_first_word.Given as goal

abbrev pub invariant-tokens : goal.invariant-tokens
invariant-tokens l = list_any (is_first_word l.unit.text.now) l.unit.tokens.now ≡ list_any (is_first_word l.unit.text.now) (drop l.place l.unit.tokens.now)
