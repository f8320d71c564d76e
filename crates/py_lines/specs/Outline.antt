-- A logical line without its tokens, and the logical line that it is then.
use Rattle.std.specs.Prelude.{◌≡◌, ℕ, true, List, [], ◌∷◌}
use Rattle.std.specs.Str.{all_scalars}
use Rattle.py_lines.specs.Piece.{Piece, spelled}
use Rattle.py_lines.specs.Fields.{AreReadBefore, IsShallow}
use Rattle.py_lines.specs.LogicalLine.{LogicalLine, cut, line_of}
use Rattle.py_lines.specs.declared.unit.UnitKind.{UnitKind}

-- a logical line without its tokens
pub record Outline : Type 0 where
  pub kind : UnitKind
  pub text : List ℕ
  pub offset : ℕ
  pub line : ℕ
  pub indent : ℕ
  pub end_len : ℕ

abbrev pub outline_of : LogicalLine → Outline
outline_of l = record { kind = l.kind; text = l.text; offset = l.offset; line = l.line; indent = l.indent; end_len = l.end_len }

-- these pieces are one logical line, which these characters may follow
pub record AreOneLine (pieces : List Piece) (after : List ℕ) : Type 0 where
  pub scalars : all_scalars (spelled pieces) ≡ true
  pub fit : AreReadBefore pieces after
  pub shallow : IsShallow 0 pieces
  pub whole : cut 0 pieces ≡ pieces ∷ []

-- the outline is that of a logical line: the one of these pieces
pub record IsOutlineOf (outline : Outline) (line : LogicalLine) : Type 0 where
  pub pieces : List Piece
  pub after : List ℕ
  pub are : AreOneLine pieces after
  pub is : line ≡ line_of outline.offset outline.line pieces
  pub same : outline_of line ≡ outline

-- the outline is that of some logical line
abbrev pub IsLine : Outline → Type 0
IsLine outline = (line : LogicalLine) × IsOutlineOf outline line
