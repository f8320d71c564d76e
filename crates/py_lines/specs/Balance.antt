-- Brackets in pairs, and how deep they stand. Python Language Reference, 2.1.6 and 2.6.
use Rattle.std.specs.Prelude.{◌≡◌, ℕ, ◌+◌, ◌-◌, ◌<◌, Bool, true, false, ◌==◌, ◌||◌, List, [], ◌∷◌, ◌++◌, if◌then◌else◌, codes}
use Rattle.std.specs.Str.{byte}
use Rattle.py_lines.specs.Character.{is_one_of}
use Rattle.py_lines.specs.Piece.{Class, operator, Piece, begins}

-- `(`, `[` and `{`
unfoldable pub is_opening : ℕ → Bool
is_opening = is_one_of (codes "([{")

-- `)`, `]` and `}`
unfoldable pub is_closing : ℕ → Bool
is_closing = is_one_of (codes ")]}")

-- the bracket that closes an opening one
abbrev pub closing_of : ℕ → ℕ
closing_of c = if c == byte "(" then byte ")" else (if c == byte "[" then byte "]" else byte "}")

-- whether the piece is an operator whose character passes
abbrev pub is_operator_that : (ℕ → Bool) → Class → List ℕ → Bool
is_operator_that passes operator text = begins passes text
is_operator_that passes other text = false

-- whether the piece is an opening bracket
abbrev pub is_opener : Piece → Bool
is_opener p = is_operator_that is_opening p.class p.text

-- whether the piece is a closing bracket
abbrev pub is_closer : Piece → Bool
is_closer p = is_operator_that is_closing p.class p.text

-- an opening bracket and the closing one of its kind
pub record ArePair (a b : Piece) : Type 0 where
  pub opens : is_opener a ≡ true
  pub closes : is_closer b ≡ true
  pub kind : begins (λ c. begins (λ d. d == closing_of c) b.text) a.text ≡ true

-- nothing, one piece that is no bracket, a pair round a balanced list, or two balanced lists in a row
pub data IsBalanced : List Piece → Type 0 where
  none : (ps : List Piece) → ps ≡ [] → IsBalanced ps
  one : (ps : List Piece) (p : Piece) → ps ≡ p ∷ [] → is_opener p || is_closer p ≡ false → IsBalanced ps
  pair : (ps inner : List Piece) (a b : Piece) → ps ≡ a ∷ inner ++ b ∷ [] → ArePair a b → IsBalanced inner → IsBalanced ps
  both : (ps first second : List Piece) → ps ≡ first ++ second → IsBalanced first → IsBalanced second → IsBalanced ps

-- the depth after a piece: openers less closers
abbrev pub depth_after : ℕ → Piece → ℕ
depth_after depth p = if is_opener p then depth + 1 else (if is_closer p then depth - 1 else depth)

-- the depth after pieces that begin at this depth
abbrev pub depth_through : ℕ → List Piece → ℕ
depth_through depth [] = depth
depth_through depth (p ∷ ps) = depth_through (depth_after depth p) ps

-- this holds of each piece at its depth, where the first stands at that one
abbrev pub EachAtDepth : (ℕ → Piece → Type 0) → ℕ → List Piece → Type 0
EachAtDepth Passes depth [] = Unit {0}
EachAtDepth Passes depth (p ∷ ps) = Passes depth p × EachAtDepth Passes (depth_after depth p) ps

-- a piece at this depth opens no bracket at depth 200
abbrev pub OpensShallow : ℕ → Piece → Type 0
OpensShallow depth p = is_opener p ≡ true → depth < 200

-- no bracket opens at depth 200
abbrev pub IsShallowPlain : ℕ → List Piece → Type 0
IsShallowPlain depth pieces = EachAtDepth OpensShallow depth pieces
