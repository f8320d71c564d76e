-- Whether a logical line can be sorted: its shape. Python Language Reference, 7.11; isort documentation,
-- "Action Comments".
use Rattle.std.specs.Prelude.{◌≡◌, ℕ, nat_eq, ◌+◌, ◌==◌, Bool, true, false, not, ◌&&◌, ◌||◌, Option, None, Some, List, [], ◌∷◌, map, slice_get, slice_range, if◌then◌else◌}
use Rattle.std.specs.List.{list_any, list_all, starts_with}
use Rattle.std.specs.Str.{byte}
use Rattle.py_lines.specs.LogicalLine.{LogicalLine}
use Rattle.py_lines.specs.Token.{is_operator_where}
use Rattle.py_lines.specs.declared.token.TokKind.{TokKind}
use Rattle.py_lines.specs.declared.token.Token.{Token}
use Rattle.py_lines.specs.declared.unit.UnitKind.TheVariants as unit_kind
use Rattle.py_imports.specs.ActionComment.{says}
use Rattle.py_imports.specs.Binds.{terminal_in}
use Rattle.py_imports.specs.Declaration.{is_code}
use Rattle.py_imports.specs.Grammar.{Terminal, begins_import, Imported, IsImport}
use Rattle.py_imports.specs.Statement.{is_comment, significant, TokenPlace, places_from, is_end}
use Rattle.py_imports.specs.declared.action_comment.ActionComment.TheVariants as action
use Rattle.py_imports.specs.declared.line_shape.Shape.{Shape}
use Rattle.py_imports.specs.declared.line_shape.Shape.TheVariants as shape

-- the tokens of the line that are no comments, as the import grammar sees them
abbrev pub terminals_of : LogicalLine → List Terminal
terminals_of line = map (terminal_in line.text) (significant line.tokens)

-- the bytes of the byte order mark that the line begins with: U+FEFF in UTF-8
abbrev pub mark_len : LogicalLine → ℕ
mark_len line = if starts_with nat_eq line.text (0xef ∷ 0xbb ∷ 0xbf ∷ []) then 3 else 0

-- the line is code, and begins with `import` or `from`
abbrev pub begins_so : LogicalLine → Bool
begins_so line = is_code line.kind && begins_import (terminals_of line)

-- whether there is a token, and it begins at this byte
abbrev pub begins_at : ℕ → Option Token → Bool
begins_at byte None = false
begins_at byte (Some t) = t.start == byte

-- the first token that is no comment stands directly after mark and indentation
abbrev pub stands_first : LogicalLine → Bool
stands_first line = begins_at (mark_len line + line.indent) (slice_get (significant line.tokens) 0)

-- `(`
abbrev pub is_parenthesis : TokKind → Bool
is_parenthesis k = is_operator_where (λ c. c == byte "(") k

-- whether the last of these tokens is `(`
abbrev pub ends_with_opening : List Token → Bool
ends_with_opening [] = false
ends_with_opening (t ∷ []) = is_parenthesis t.kind
ends_with_opening (t ∷ u ∷ ts) = ends_with_opening (u ∷ ts)

-- whether these are no tokens
abbrev pub is_nothing : List Token → Bool
is_nothing [] = true
is_nothing (t ∷ ts) = false

-- a comment is the last token, or stands directly after `(`
abbrev pub stands_well : TokenPlace → Bool
stands_well p = not (is_comment p.token.kind) || is_nothing p.after || ends_with_opening p.before

-- the token is a comment of this text that says `skip`
abbrev pub says_skip : List ℕ → Token → Bool
says_skip text t = is_comment t.kind && says action.Skip (slice_range text t.start t.stop)

-- a logical line that can be sorted: one import statement in the grammar, which stands first and shares the line with
-- no other, and comments only at its end or directly after `(`, none of which says `skip`
pub record IsSortable (line : LogicalLine) : Type 0 where
  pub code : line.kind ≡ unit_kind.Code
  pub first : stands_first line ≡ true
  pub alone : list_any is_end (places_from [] (significant line.tokens)) ≡ false
  pub imported : List Imported
  pub is : IsImport (terminals_of line) imported
  pub comments : list_all stands_well (places_from [] line.tokens) ≡ true
  pub unskipped : list_any (says_skip line.text) line.tokens ≡ false

-- what each shape means
abbrev pub HasShape : LogicalLine → Shape → Type 0
HasShape line shape.Sortable = IsSortable line
HasShape line shape.Pinned = (begins_so line ≡ true) × ¬ (IsSortable line)
HasShape line shape.Other = begins_so line ≡ false
