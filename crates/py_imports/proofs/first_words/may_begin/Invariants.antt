-- The bytes from here on are spaces.
use Rattle.std.proofs.Common.{◌≡◌, ℕ, ◌<◌, ◌≤◌, true}
use Rattle.std.specs.Prelude.{slice_index}
use Rattle.py_lines.specs.Character.{is_space}
use Rattle.py_imports.proofs.first_words.may_begin.Given as goal

abbrev pub invariant-spaces : goal.invariant-spaces
invariant-spaces l = (i : ℕ) → l.from ≤ i → i < l.place → is_space (slice_index l.text i) ≡ true
