-- The first logical lines of a text, up to a place: without a reader, and without its fault.
use Rattle.std.specs.Prelude.{◌≡◌, ℕ, ◌+◌, ◌⊎◌, List, [], ◌++◌}
use Rattle.py_lines.specs.Piece.{Piece, spelled}
use Rattle.py_lines.specs.Balance.{IsBalanced}
use Rattle.py_lines.specs.Fields.{AreReadBefore, IsShallow}
use Rattle.py_lines.specs.Reading.{Decodes}
use Rattle.py_lines.specs.Settled.{EndsForGood}
use Rattle.py_lines.specs.LogicalLine.{LogicalLine, lines_of, byte_len, line_ends}

-- These are the first logical lines of the text, up to this byte, which is on this line: they are cut from pieces that
-- are read before the rest, and stay so whatever follows, or the text ends there.
pub record AreFirstLines (text : List ℕ) (place line : ℕ) (lines : List LogicalLine) : Type 0 where
  pub characters : List ℕ
  pub tail : List ℕ
  pub pieces : List Piece
  pub rest : List ℕ
  pub decodes : Decodes text characters tail
  pub spell : spelled pieces ++ rest ≡ characters
  pub fit : AreReadBefore pieces rest
  pub balanced : IsBalanced pieces
  pub shallow : IsShallow 0 pieces
  pub ended : EndsForGood pieces (rest ++ tail) ⊎ (rest ++ tail ≡ [])
  pub here : place ≡ byte_len (spelled pieces)
  pub number : line ≡ 1 + line_ends (spelled pieces)
  pub cut : lines ≡ lines_of pieces
