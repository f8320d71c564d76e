-- What is open at a place of a text with fields: strings in fields, and fields in strings, one in another. Python Language
-- Reference of Python 3.14, the sections on f-strings and t-strings. It is said of any dialect: where one of two names has `In`
-- at its end, it takes a dialect, and the other speaks of texts with fields.
use Rattle.std.specs.Prelude.{◌≡◌, ℕ, ◌+◌, ◌<◌, Bool, true, false, ◌⊎◌, List, [], ◌∷◌, ◌++◌}
use Rattle.std.specs.Str.{byte}
use Rattle.std.specs.List.{list_all, list_any}
use Rattle.py_lines.specs.Character.{is_quote, is_backslash, is_r}
use Rattle.py_lines.specs.Piece.{Piece, begins_marked, spelled}
use Rattle.py_lines.specs.PieceGrammar.{IsPrefix, is_item, is_short_item, joined, has_triple, AreReadIn}
use Rattle.py_lines.specs.Balance.{IsBalanced, depth_through}
use Rattle.py_lines.specs.Fields.{HasNoColon, AreInside}
use Rattle.py_lines.specs.FieldStrings.{Host, Place, literal, specification, quotes_of, begins_open, named_through, AreParts}
use Rattle.py_lines.specs.Dialect.{Dialect, fielded_dialect}

-- the items of an open string may have a backslash after them that has nothing to escape yet
abbrev pub IsUnescaped : List ℕ → Type 0
IsUnescaped last = (last ≡ []) ⊎ ((slash : ℕ) × (last ≡ slash ∷ []) × (is_backslash slash ≡ true))

-- The beginning of a string, up to where it is still open (2.4.1): after its prefix, the quotes that open it and whole items,
-- which it may hold.
pub record IsOpenPrefix (opening : ℕ → List ℕ) (MayHold : ℕ → List (List ℕ) → Type 0) (text : List ℕ) : Type 0 where
  pub prefix : List ℕ
  pub quote : ℕ
  pub items : List (List ℕ)
  pub last : List ℕ
  pub spell : text ≡ prefix ++ (opening quote ++ joined items ++ last)
  pub begun : IsPrefix prefix
  pub opens : is_quote quote ≡ true
  pub holds : MayHold quote items
  pub escapes : IsUnescaped last

-- of a short string
abbrev pub IsShortPrefix : List ℕ → Type 0
IsShortPrefix text = IsOpenPrefix (λ quote. quote ∷ []) (λ quote items. list_all (is_short_item quote) items ≡ true) text

-- of a long string
abbrev pub IsLongPrefix : List ℕ → Type 0
IsLongPrefix text =
    IsOpenPrefix (λ quote. quote ∷ quote ∷ quote ∷ [])
    (λ quote items. (list_all is_item items ≡ true) × (has_triple quote items ≡ false)) text

-- one backslash
abbrev pub IsSlash : List ℕ → Type 0
IsSlash text = (slash : ℕ) × (text ≡ slash ∷ []) × (is_backslash slash ≡ true)

-- Where a place between two parts of a string is: in its literal part or in a specification; whether braces stand for
-- themselves there; in how many specifications, one in another; and what of the string stands before the `{` of the field
-- whose specification it is.
pub record Spot : Type 0 where
  pub place : Place
  pub named : Bool
  pub specifications : ℕ
  pub field : List ℕ

-- a spot in the literal part, after these parts
abbrev pub literal_after : List (List ℕ) → Spot
literal_after parts = record { place = literal; named = named_through false parts; specifications = 0; field = [] }

-- a spot in the specification of a field that opens after `before`, at that spot
abbrev pub specification_after : Spot → List ℕ → List (List ℕ) → Spot
specification_after round before parts =
    record { place = specification; named = named_through false parts; specifications = round.specifications + 1; field = before }

-- a field may open at the spot, directly before these characters: braces don't stand for themselves there, and in a literal
-- part no second brace follows
pub record MayOpen (spot : Spot) (after : List ℕ) : Type 0 where
  pub unnamed : spot.named ≡ false
  pub single : spot.place ≡ literal → begins_open after ≡ false

-- The beginning of a string with fields, up to a spot in it: a prefix, quotes and parts; or the beginning up to a spot where a
-- field opens, that field's pieces, `:`, and parts of its specification. No three quotes in a row close it.
pub data IsOpenStringIn (dialect : Dialect) (host : Host) : Spot → List ℕ → List ℕ → Type 0 where
  in_literal : (spot : Spot) (front rest prefix : List ℕ) (parts : List (List ℕ)) → spot ≡ literal_after parts
      → front ≡ prefix ++ (quotes_of host ++ joined parts) → dialect.is_field_prefix prefix ≡ true
      → host.is_raw ≡ list_any is_r prefix → is_quote host.quote ≡ true
      → AreParts dialect.Fields host literal false parts rest → has_triple host.quote parts ≡ false
      → IsOpenStringIn dialect host spot front rest
  in_specification : (spot round : Spot) (front rest before : List ℕ) (inside : List Piece) (parts : List (List ℕ))
      → spot ≡ specification_after round before parts → front ≡ before ++ (byte "{" ∷ spelled inside ++ (byte ":" ∷ joined parts))
      → IsOpenStringIn dialect host round before (byte "{" ∷ spelled inside ++ (byte ":" ∷ joined parts ++ rest))
      → MayOpen round (spelled inside ++ byte ":" ∷ []) → AreInside dialect.grammar inside (byte ":" ∷ [])
      → AreParts dialect.Fields host specification false parts rest → has_triple host.quote parts ≡ false
      → IsOpenStringIn dialect host spot front rest

-- The first pieces of a list, at this depth, before the rest: others after them would balance it. In a field, which stands at
-- a depth above 0, none of them is a mark, and no `:` stands outside brackets.
pub record AreBegunIn (dialect : Dialect) (depth : ℕ) (pieces : List Piece) (rest : List ℕ) : Type 0 where
  pub fit : AreReadIn dialect.grammar pieces rest
  pub others : List Piece
  pub balanced : IsBalanced (pieces ++ others)
  pub inside : 0 < depth → (begins_marked pieces ≡ false) × HasNoColon 0 pieces

-- A list of pieces begins between these characters and the rest, with so many brackets and fields open: at the text's start,
-- or directly after the `{` of a field that opens in a string, which stands after pieces of such a list.
pub data BeginsListIn (dialect : Dialect) : List ℕ → List ℕ → ℕ → Type 0 where
  at_start : (before rest : List ℕ) (depth : ℕ) → before ≡ [] → depth ≡ 0 → BeginsListIn dialect before rest depth
  in_field : (before rest : List ℕ) (depth : ℕ) (outside : List ℕ) (base : ℕ) (pieces : List Piece) (front : List ℕ)
      (host : Host) (spot : Spot)
      → before ≡ outside ++ (spelled pieces ++ (front ++ byte "{" ∷ []))
      → BeginsListIn dialect outside (spelled pieces ++ (front ++ byte "{" ∷ rest)) base
      → AreBegunIn dialect base pieces (front ++ byte "{" ∷ rest)
      → IsOpenStringIn dialect host spot front (byte "{" ∷ rest) → MayOpen spot rest
      → depth ≡ base + depth_through 0 pieces + spot.specifications + 1 → BeginsListIn dialect before rest depth

-- pieces of the innermost list end at `start`, and what follows them is open
pub record StandsOpenIn (dialect : Dialect) (IsOpen : List ℕ → Type 0) (characters start : List ℕ) : Type 0 where
  pub outside : List ℕ
  pub depth : ℕ
  pub pieces : List Piece
  pub front : List ℕ
  pub list : BeginsListIn dialect outside (spelled pieces ++ front) depth
  pub begun : AreBegunIn dialect depth pieces front
  pub before : outside ++ spelled pieces ≡ start
  pub spell : start ++ front ≡ characters
  pub open_yet : IsOpen front

-- a string with fields is open up to a spot, or up to a backslash after it that has nothing to escape yet
pub record IsOpenUpToIn (dialect : Dialect) (host : Host) (spot : Spot) (front : List ℕ) : Type 0 where
  pub body : List ℕ
  pub last : List ℕ
  pub spell : front ≡ body ++ last
  pub escapes : IsUnescaped last
  pub string : IsOpenStringIn dialect host spot body last

-- a short or long string whose prefix is not that of strings with fields is open
abbrev pub IsPlainShortPrefixIn : Dialect → List ℕ → Type 0
IsPlainShortPrefixIn dialect front = (short : IsShortPrefix front) × (dialect.is_field_prefix short.prefix ≡ false)

abbrev pub IsPlainLongPrefixIn : Dialect → List ℕ → Type 0
IsPlainLongPrefixIn dialect front = (long : IsLongPrefix front) × (dialect.is_field_prefix long.prefix ≡ false)

-- the literal part of a string with fields is open, a long or a short one
abbrev pub IsOpenLiteralIn : Dialect → Bool → List ℕ → Type 0
IsOpenLiteralIn dialect is_long front =
    (host : Host) × (spot : Spot) × IsOpenUpToIn dialect host spot front × (spot.place ≡ literal) × (host.is_long ≡ is_long)

-- a short string, with fields or without, starts after `start` and is open, and not in a field of its own
abbrev pub InOpenShortIn : Dialect → List ℕ → List ℕ → Type 0
InOpenShortIn dialect characters start =
    StandsOpenIn dialect (λ front. IsPlainShortPrefixIn dialect front ⊎ IsOpenLiteralIn dialect false front) characters start

-- a long one
abbrev pub InOpenLongIn : Dialect → List ℕ → List ℕ → Type 0
InOpenLongIn dialect characters start =
    StandsOpenIn dialect (λ front. IsPlainLongPrefixIn dialect front ⊎ IsOpenLiteralIn dialect true front) characters start

-- a backslash outside strings and comments comes after `start`
abbrev pub AfterOpenBackslashIn : Dialect → List ℕ → List ℕ → Type 0
AfterOpenBackslashIn dialect characters start = StandsOpenIn dialect IsSlash characters start

-- the specification of a field is open, whose `{` comes after `start`, in this string
pub record InSpecificationIn (dialect : Dialect) (host : Host) (characters start : List ℕ) : Type 0 where
  pub string : List ℕ
  pub spot : Spot
  pub stands : StandsOpenIn dialect (IsOpenUpToIn dialect host spot) characters string
  pub place : spot.place ≡ specification
  pub before : string ++ spot.field ≡ start

-- a field's pieces go to the end of the characters and are balanced, and its `{` comes after `start`
pub record InFieldCodeIn (dialect : Dialect) (characters start : List ℕ) : Type 0 where
  pub depth : ℕ
  pub pieces : List Piece
  pub list : BeginsListIn dialect (start ++ byte "{" ∷ []) (spelled pieces) depth
  pub begun : AreBegunIn dialect depth pieces []
  pub deep : 0 < depth
  pub balanced : IsBalanced pieces
  pub spell : start ++ (byte "{" ∷ spelled pieces) ≡ characters

-- a field is open, in its pieces or in its specification, and nothing in it is
abbrev pub InOpenFieldIn : Dialect → List ℕ → List ℕ → Type 0
InOpenFieldIn dialect characters start =
    InFieldCodeIn dialect characters start ⊎ ((host : Host) × InSpecificationIn dialect host characters start)

-- all these with fields
abbrev pub IsOpenString : Host → Spot → List ℕ → List ℕ → Type 0
IsOpenString = IsOpenStringIn fielded_dialect

abbrev pub AreBegun : ℕ → List Piece → List ℕ → Type 0
AreBegun = AreBegunIn fielded_dialect

abbrev pub BeginsList : List ℕ → List ℕ → ℕ → Type 0
BeginsList = BeginsListIn fielded_dialect

abbrev pub StandsOpen : (List ℕ → Type 0) → List ℕ → List ℕ → Type 0
StandsOpen = StandsOpenIn fielded_dialect

abbrev pub IsOpenUpTo : Host → Spot → List ℕ → Type 0
IsOpenUpTo = IsOpenUpToIn fielded_dialect

abbrev pub IsPlainShortPrefix : List ℕ → Type 0
IsPlainShortPrefix = IsPlainShortPrefixIn fielded_dialect

abbrev pub IsPlainLongPrefix : List ℕ → Type 0
IsPlainLongPrefix = IsPlainLongPrefixIn fielded_dialect

abbrev pub IsOpenLiteral : Bool → List ℕ → Type 0
IsOpenLiteral = IsOpenLiteralIn fielded_dialect

abbrev pub InOpenShort : List ℕ → List ℕ → Type 0
InOpenShort = InOpenShortIn fielded_dialect

abbrev pub InOpenLong : List ℕ → List ℕ → Type 0
InOpenLong = InOpenLongIn fielded_dialect

abbrev pub AfterOpenBackslash : List ℕ → List ℕ → Type 0
AfterOpenBackslash = AfterOpenBackslashIn fielded_dialect

abbrev pub InSpecification : Host → List ℕ → List ℕ → Type 0
InSpecification = InSpecificationIn fielded_dialect

abbrev pub InFieldCode : List ℕ → List ℕ → Type 0
InFieldCode = InFieldCodeIn fielded_dialect

abbrev pub InOpenField : List ℕ → List ℕ → Type 0
InOpenField = InOpenFieldIn fielded_dialect
