-- How strings are read: with fields in them, after Python 3.14, or without, as Python 3.11 reads them. What is said of
-- a text, of its logical lines and its fault, is said for both at once.
use Rattle.std.specs.Prelude.{ℕ, Bool, false, List}
use Rattle.py_lines.specs.Piece.{Piece}
use Rattle.py_lines.specs.PieceGrammar.{Grammar, without_fields}
use Rattle.py_lines.specs.Balance.{IsShallowPlain}
use Rattle.py_lines.specs.FieldStrings.{is_field_prefix, Host}
use Rattle.py_lines.specs.Fields.{Fields, fielded, IsShallow}

-- A grammar of pieces, with what it knows of fields: which words are prefixes of strings that hold them, which texts are fields
-- of such a string, and whether pieces that begin at a depth open no bracket and no field at depth 200.
pub record Dialect : Type 1 where
  pub grammar : Grammar
  pub is_field_prefix : List ℕ → Bool
  pub Fields : Host → List ℕ → Type 0
  pub IsShallow : ℕ → List Piece → Type 0

-- strings with `f` or `t` in their prefix hold fields
abbrev pub fielded_dialect : Dialect
fielded_dialect = record { grammar = fielded; is_field_prefix = is_field_prefix; Fields = Fields; IsShallow = IsShallow }

-- no string holds a field
abbrev pub plain_dialect : Dialect
plain_dialect = record {
  grammar = without_fields;
  is_field_prefix = λ prefix. false;
  Fields = λ host text. ⊥;
  IsShallow = IsShallowPlain;
}
