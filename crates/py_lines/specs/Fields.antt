-- The fields of strings, which hold code, and texts with them. Python Language Reference of Python 3.14, the sections on
-- f-strings and t-strings.
use Rattle.std.specs.Prelude.{◌≡◌, ℕ, zero, suc, ◌+◌, ◌<◌, Bool, true, false, ◌==◌, ◌&&◌, List, [], ◌∷◌, ◌++◌, encode_utf8_all}
use Rattle.std.specs.Str.{byte, all_scalars}
use Rattle.py_lines.specs.Piece.{Class, string, Piece, begins_marked, spelled}
use Rattle.py_lines.specs.PieceGrammar.{joined, has_triple, Grammar, InClassIn, MayPrecedeIn, AreReadIn, ReadsIn}
use Rattle.py_lines.specs.Balance.{is_operator_that, is_opener, IsBalanced, depth_after}
use Rattle.py_lines.specs.FieldStrings.{Host, specification, AreParts, named_through, with_fields}

-- whether the piece is `:`
abbrev pub is_colon : Piece → Bool
is_colon p = is_operator_that (λ c. c == byte ":") p.class p.text

-- no `:` stands at depth 0 in pieces that begin at this depth
abbrev pub HasNoColon : ℕ → List Piece → Type 0
HasNoColon depth [] = Unit {0}
HasNoColon depth (p ∷ ps) = (is_colon p && (depth == 0) ≡ false) × HasNoColon (depth_after depth p) ps

-- The pieces in a field, before the `}` or `:` that ends them: none of them is a mark, their brackets are in pairs, and no
-- `:` stands outside these. A comment stands before a line end, since the field's end is not the text's.
pub record AreInside (grammar : Grammar) (pieces : List Piece) (rest : List ℕ) : Type 0 where
  pub fit : AreReadIn grammar pieces rest
  pub unmarked : begins_marked pieces ≡ false
  pub balanced : IsBalanced pieces
  pub colon : HasNoColon 0 pieces

-- A specification before the `}` that ends its field, with these fields in it: that `}` is none of a name after `\N{`, and
-- three quotes in a row, which would close a long string, stand nowhere.
pub record IsSpecification (Fields : Host → List ℕ → Type 0) (host : Host) (parts : List (List ℕ)) : Type 0 where
  pub each : AreParts Fields host specification false parts (byte "}" ∷ [])
  pub ended : named_through false parts ≡ false
  pub open_yet : has_triple host.quote parts ≡ false

-- A field of this string: pieces between `{` and `}`, or pieces and after `:` a specification. The pieces meet one more
-- condition, `Passes`.
pub data IsField (grammar : Grammar) (Passes : List Piece → Type 0) (Parts : Host → List ℕ → Type 0) (host : Host)
    (text : List ℕ) : Type 0 where
  simple : (inside : List Piece) → text ≡ byte "{" ∷ spelled inside ++ byte "}" ∷ []
      → AreInside grammar inside (byte "}" ∷ []) → Passes inside → IsField grammar Passes Parts host text
  specified : (inside : List Piece) (parts : List (List ℕ)) → text ≡ byte "{" ∷ spelled inside ++ (byte ":" ∷ joined parts ++ byte "}" ∷ [])
      → AreInside grammar inside (byte ":" ∷ []) → Passes inside → IsSpecification Parts host parts → IsField grammar Passes Parts host text

-- any pieces: no more condition
abbrev pub AnyPieces : List Piece → Type 0
AnyPieces pieces = Unit {0}

-- fields with fewer than `n` fields one in another
abbrev pub FieldsWithin : ℕ → Host → List ℕ → Type 0
FieldsWithin zero host text = ⊥
FieldsWithin (suc n) host text = IsField (with_fields (FieldsWithin n)) AnyPieces (FieldsWithin n) host text

-- fields, however many stand one in another
abbrev pub Fields : Host → List ℕ → Type 0
Fields host text = (n : ℕ) × FieldsWithin n host text

-- the grammar whose strings hold fields, as those of Python 3.14 do
abbrev pub fielded : Grammar
fielded = with_fields Fields

-- how each class is spelled
abbrev pub InClass : Class → List ℕ → Type 0
InClass class text = InClassIn fielded class text

-- what a piece may stand before: `rest` is all that follows it
abbrev pub MayPrecede : Class → List ℕ → List ℕ → Type 0
MayPrecede class text rest = MayPrecedeIn fielded class text rest

-- each piece is of its class and may precede what follows it, with `rest` at the end; no mark stands after a piece
abbrev pub AreReadBefore : List Piece → List ℕ → Type 0
AreReadBefore pieces rest = AreReadIn fielded pieces rest

-- the pieces read these characters, to the end of the text
abbrev pub Reads : List Piece → List ℕ → Type 0
Reads pieces characters = ReadsIn fielded pieces characters

-- the pieces read this text: it is the UTF-8 of their characters
pub record ReadsText (pieces : List Piece) (text : List ℕ) : Type 0 where
  pub scalars : all_scalars (spelled pieces) ≡ true
  pub spell : encode_utf8_all (spelled pieces) ≡ text
  pub fit : AreReadBefore pieces []

-- No bracket and no field opens at depth 200 in pieces that begin at this depth, where `Shallow` says it of the fields of
-- a string at each depth: brackets and fields count in one depth.
abbrev pub IsShallowWith : (Shallow : ℕ → Host → List ℕ → Type 0) → ℕ → List Piece → Type 0
IsShallowWith Shallow depth [] = Unit {0}
IsShallowWith Shallow depth (p ∷ ps) =
    (is_opener p ≡ true → depth < 200) × (p.class ≡ string → (with_fields (Shallow depth)).IsString p.text)
    × IsShallowWith Shallow (depth_after depth p) ps

-- fields with fewer than `n` fields one in another, whose `{` stands at this depth: none of them opens at depth 200, and no
-- bracket in them does
abbrev pub ShallowWithin : ℕ → ℕ → Host → List ℕ → Type 0
ShallowWithin zero depth host text = ⊥
ShallowWithin (suc n) depth host text =
    (depth < 200) × IsField fielded (IsShallowWith (ShallowWithin n) (depth + 1)) (ShallowWithin n (depth + 1)) host text

-- fields of a string at this depth, in which no bracket and no field opens at depth 200
abbrev pub ShallowFields : ℕ → Host → List ℕ → Type 0
ShallowFields depth host text = (n : ℕ) × ShallowWithin n depth host text

-- no bracket and no field opens at depth 200 in pieces that begin at this depth
abbrev pub IsShallow : ℕ → List Piece → Type 0
IsShallow depth pieces = IsShallowWith ShallowFields depth pieces
