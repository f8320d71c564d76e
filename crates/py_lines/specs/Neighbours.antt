-- Pieces that are put one after another: which may touch, and what may follow whole lines.
use Rattle.std.specs.Prelude.{◌≡◌, ℕ, Bool, true, false, not, ◌&&◌, List, [], ◌∷◌}
use Rattle.py_lines.specs.Character.{is_line_feed, is_return}
use Rattle.py_lines.specs.Piece.{Class, mark, space, word, string, operator, comment, join, line_end, Piece, begins, ends, begins_marked, spelled}
use Rattle.py_lines.specs.Fields.{InClass}
use Rattle.py_lines.specs.LogicalLine.{is_line_end_class}

-- every class except marks and strings
abbrev pub is_simple : Class → Bool
is_simple mark = false
is_simple string = false
is_simple other = true

-- each piece is of its class, which is simple
abbrev pub AreSimple : List Piece → Type 0
AreSimple [] = Unit {0}
AreSimple (p ∷ ps) = (is_simple p.class ≡ true) × InClass p.class p.text × AreSimple ps

-- space
abbrev pub is_space_class : Class → Bool
is_space_class space = true
is_space_class other = false

-- words
abbrev pub is_word_class : Class → Bool
is_word_class word = true
is_word_class other = false

-- whether a simple piece may stand directly before another: no space before space, no word before a word, a line end alone
-- after a comment, and no CR before LF
abbrev pub may_touch : Class → List ℕ → Class → List ℕ → Bool
may_touch space text class next = not (is_space_class class)
may_touch word text class next = not (is_word_class class)
may_touch operator text class next = true
may_touch comment text class next = is_line_end_class class
may_touch join text class next = not (ends is_return text && begins is_line_feed next)
may_touch line_end text class next = not (ends is_return text && begins is_line_feed next)
may_touch other text class next = false

-- each piece may stand directly before the next
abbrev pub MayTouch : List Piece → Type 0
MayTouch [] = Unit {0}
MayTouch (p ∷ []) = Unit {0}
MayTouch (p ∷ q ∷ ps) = (may_touch p.class p.text q.class q.text ≡ true) × MayTouch (q ∷ ps)

-- what may follow whole lines: no mark, and no LF after CR
pub record MayFollowLines (lines rest : List Piece) : Type 0 where
  pub unmarked : begins_marked rest ≡ false
  pub uncut : ends is_return (spelled lines) && begins is_line_feed (spelled rest) ≡ false
