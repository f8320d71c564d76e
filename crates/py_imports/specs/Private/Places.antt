-- What is known of a line's first token that is no comment.
use Rattle.std.specs.Prelude.{◌≡◌, ℕ, ◌+◌, ◌==◌, Bool, true, false, Some, List, [], ◌∷◌, map, drop, slice_get}
use Rattle.std.specs.List.{list_any, list_all}
use Rattle.py_lines.specs.LogicalLine.{LogicalLine}
use Rattle.py_lines.specs.declared.token.Token.{Token}
use Rattle.py_lines.specs.declared.unit.UnitKind.TheVariants as unit_kind
use Rattle.py_imports.specs.Binds.{terminal_in}
use Rattle.py_imports.specs.Private.Items.{with_first_word}
use Rattle.py_imports.specs.Shape.{terminals_of, mark_len, stands_first, stands_well, says_skip}
use Rattle.py_imports.specs.Statement.{significant, places_from, is_end}
use Rattle.py_imports.specs.declared.items.Form.{Form}

-- the first token that is no comment
pub record IsFirstCode (tokens : List Token) (place : ℕ) : Type 0 where
  pub first : Token
  pub at : slice_get tokens place ≡ Some first
  pub all : significant tokens ≡ first ∷ significant (drop (place + 1) tokens)

-- the line is code, and its first token that is no comment begins an import statement
pub record BeginsAt (line : LogicalLine) (place : ℕ) (form : Form) : Type 0 where
  pub code : line.kind ≡ unit_kind.Code
  pub first : IsFirstCode line.tokens place
  pub begins : terminals_of line ≡ with_first_word form (map (terminal_in line.text) (significant (drop (place + 1) line.tokens)))

-- what a line that can be sorted has beside its code and the grammar
pub record IsMovable (line : LogicalLine) : Type 0 where
  pub first : stands_first line ≡ true
  pub alone : list_any is_end (places_from [] (significant line.tokens)) ≡ false
  pub comments : list_all stands_well (places_from [] line.tokens) ≡ true
  pub unskipped : list_any (says_skip line.text) line.tokens ≡ false

-- whether a token begins directly after mark and indentation
abbrev pub begins_line : LogicalLine → Token → Bool
begins_line line t = t.start == mark_len line + line.indent
