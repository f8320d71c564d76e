-- The modes of the machine outside strings with fields: what is open, and how far it has come.
use Rattle.std.specs.Prelude.{ℕ}
use Rattle.py_lines.specs.declared.mode.Spelling.{Spelling}

-- The piece that is open, and how far it has come. A number is the quote of the string: after one quote of a short string, or after two;
-- in it; after a backslash, or after a backslash and CR, to which LF may belong; in a long one, after one or two quotes of its own, or
-- after a backslash.
pub data Mode : Type 0 where
  Start : Mode
  Free : Mode
  Space : Mode
  Word : Spelling → Mode
  Comment : Mode
  Opened : ℕ → Mode
  Inside : ℕ → Mode
  Escape : ℕ → Mode
  EscapeReturn : ℕ → Mode
  Empty : ℕ → Mode
  Long : ℕ → Mode
  LongOne : ℕ → Mode
  LongTwo : ℕ → Mode
  LongEscape : ℕ → Mode
  Backslash : Mode
  JoinReturn : Mode
  Return : Mode
