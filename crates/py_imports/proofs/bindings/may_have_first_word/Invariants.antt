-- Where no token so far may be such a word, none is.
use Rattle.std.proofs.Common.{◌≡◌, drop, false}
use Rattle.std.specs.List.{list_any}
use Rattle.py_imports.specs.Private.Bindings.{is_first_word}
use Rattle.py_imports.proofs.bindings.may_have_first_word.Given as goal

abbrev pub invariant-tokens : goal.invariant-tokens
invariant-tokens l =
    l.may ≡ false → list_any (is_first_word l.unit.text.now) l.unit.tokens.now ≡ list_any (is_first_word l.unit.text.now) (drop l.place l.unit.tokens.now)
