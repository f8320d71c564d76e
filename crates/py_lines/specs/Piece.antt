-- Pieces, which a text is cut into: their classes and their characters. What each class looks like stands in PieceGrammar.
-- Python Language Reference, chapter 2.
use Rattle.std.specs.Prelude.{ℕ, Bool, true, false, List, [], ◌∷◌, ◌++◌}

-- the classes of pieces
pub data Class : Type 0 where
  mark : Class
  space : Class
  word : Class
  string : Class
  operator : Class
  comment : Class
  join : Class
  line_end : Class

-- a piece of the text: its class and its characters
pub record Piece : Type 0 where
  pub class : Class
  pub text : List ℕ

-- whether the text begins with a character that passes
abbrev pub begins : (ℕ → Bool) → List ℕ → Bool
begins passes [] = false
begins passes (c ∷ cs) = passes c

-- whether the text ends with a character that passes
abbrev pub ends : (ℕ → Bool) → List ℕ → Bool
ends passes [] = false
ends passes (c ∷ []) = passes c
ends passes (c ∷ d ∷ cs) = ends passes (d ∷ cs)

-- the byte order mark
abbrev pub is_mark_class : Class → Bool
is_mark_class mark = true
is_mark_class other = false

-- whether the pieces begin with a mark
abbrev pub begins_marked : List Piece → Bool
begins_marked [] = false
begins_marked (p ∷ ps) = is_mark_class p.class

-- the characters of pieces, one piece after another
abbrev pub spelled : List Piece → List ℕ
spelled [] = []
spelled (p ∷ ps) = p.text ++ spelled ps
