-- What it is to read a text: its bytes as characters, and these as pieces whose brackets stand in pairs. Python Language
-- Reference, 2.1. It is said of any dialect: where one of two names has `In` at its end, it takes a dialect, and the other
-- speaks of texts with fields.
use Rattle.std.specs.Prelude.{◌≡◌, ℕ, ◌≤◌, ◌⊎◌, true, List, [], ◌∷◌, ◌++◌, length, encode_utf8_all}
use Rattle.std.specs.Str.{all_scalars, StartsWithNoChar}
use Rattle.py_lines.specs.Piece.{line_end, Piece, spelled}
use Rattle.py_lines.specs.Balance.{IsBalanced, depth_through}
use Rattle.py_lines.specs.PieceGrammar.{ReadsIn}
use Rattle.py_lines.specs.Dialect.{Dialect, fielded_dialect}

-- the bytes are the UTF-8 of these characters, and then `tail`, which begins with no character
pub record Decodes (text characters tail : List ℕ) : Type 0 where
  pub are : all_scalars characters ≡ true
  pub spell : encode_utf8_all characters ++ tail ≡ text
  pub bad : StartsWithNoChar tail

-- the pieces read these characters whole, with brackets in pairs and at most 200 brackets and fields open
pub record IsReadingIn (dialect : Dialect) (pieces : List Piece) (characters : List ℕ) : Type 0 where
  pub reads : ReadsIn dialect.grammar pieces characters
  pub balanced : IsBalanced pieces
  pub shallow : dialect.IsShallow 0 pieces

-- the pieces read these characters whole, with brackets in pairs and at most 200 brackets and fields open: strings hold fields
abbrev pub IsBalancedReading : List Piece → List ℕ → Type 0
IsBalancedReading = IsReadingIn fielded_dialect

-- the pieces are none, or the last ends a line at depth 0
abbrev pub EndsLine : List Piece → Type 0
EndsLine pieces =
    (pieces ≡ [])
    ⊎ ((body : List Piece) × (last : Piece) × (pieces ≡ body ++ last ∷ []) × (last.class ≡ line_end) × (depth_through 0 body ≡ 0))

-- no pieces that read a prefix of the characters, and end it so, read more of them
abbrev pub AreLongestIn : Dialect → (List Piece → List ℕ → Type 0) → List Piece → List ℕ → Type 0
AreLongestIn dialect EndSo pieces characters =
    (others : List Piece) (after : List ℕ) → spelled others ++ after ≡ characters → IsReadingIn dialect others (spelled others)
    → EndSo others after → length (spelled others) ≤ length (spelled pieces)

-- the pieces read a prefix of the characters that ends so, the longest that there is
pub record IsLongestIn (dialect : Dialect) (EndSo : List Piece → List ℕ → Type 0) (pieces : List Piece)
    (characters : List ℕ) : Type 0 where
  pub rest : List ℕ
  pub spell : spelled pieces ++ rest ≡ characters
  pub reading : IsReadingIn dialect pieces (spelled pieces)
  pub ended : EndSo pieces rest
  pub longest : AreLongestIn dialect EndSo pieces characters

-- a prefix that ends a line
abbrev pub IsReadPrefixIn : Dialect → List Piece → List ℕ → Type 0
IsReadPrefixIn dialect pieces characters = IsLongestIn dialect (λ others after. EndsLine others) pieces characters

-- these with fields
abbrev pub IsLongest : (List Piece → List ℕ → Type 0) → List Piece → List ℕ → Type 0
IsLongest = IsLongestIn fielded_dialect

abbrev pub IsReadPrefix : List Piece → List ℕ → Type 0
IsReadPrefix = IsReadPrefixIn fielded_dialect
