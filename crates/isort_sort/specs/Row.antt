-- The logical lines of a text as sorting sees them.
use Rattle.std.specs.Prelude.{◌≡◌, ℕ, ◌+◌, Bool, true, false, not, ◌&&◌, ◌||◌, ◌⊎◌, List, [], ◌∷◌, ◌++◌, map}
use Rattle.std.specs.Prelude.{drop, slice_range, nat_lt, if◌then◌else◌, Option, None, Some, slice_get}
use Rattle.std.specs.List.{list_any}
use Rattle.py_lines.specs.LogicalLine.{LogicalLine}
use Rattle.py_lines.specs.declared.token.TokKind.{TokKind}
use Rattle.py_lines.specs.declared.token.TokKind.TheVariants as kind
use Rattle.py_lines.specs.declared.token.Token.{Token}
use Rattle.py_lines.specs.declared.unit.UnitKind.{UnitKind}
use Rattle.py_lines.specs.declared.unit.UnitKind.TheVariants as unit_kind
use Rattle.py_imports.specs.ActionComment.{says}
use Rattle.py_imports.specs.Binds.{Binds}
use Rattle.py_imports.specs.BindingValue.{BindingValue}
use Rattle.py_imports.specs.Declaration.{is_declaration}
use Rattle.py_imports.specs.Grammar.{Imported}
use Rattle.py_imports.specs.Shape.{mark_len, is_nothing, IsSortable, HasShape}
use Rattle.py_imports.specs.Statement.{significant}
use Rattle.py_imports.specs.declared.action_comment.ActionComment.{ActionComment}
use Rattle.py_imports.specs.declared.action_comment.ActionComment.TheVariants as action
use Rattle.py_imports.specs.declared.line_shape.Shape.{Shape}
use Rattle.py_imports.specs.declared.line_shape.Shape.TheVariants as shape
use Rattle.isort_sort.specs.Line.{word_of, comment_texts, own_comments, imported_of}

-- whether a line has comments alone
abbrev pub is_comment_kind : UnitKind → Bool
is_comment_kind unit_kind.Comment = true
is_comment_kind _ = false

-- a line that holds comments alone, one of which says the action
abbrev pub says_alone : ActionComment → LogicalLine → Bool
says_alone a line = is_comment_kind line.kind && list_any (says a) (comment_texts line)

-- a line turns sorting off; or on, which `off` beside it overrules
abbrev pub says_off : LogicalLine → Bool
says_off line = says_alone action.Off line

abbrev pub says_on : LogicalLine → Bool
says_on line = says_alone action.On line && not (says_off line)

-- a line parts blocks
abbrev pub parts_blocks : LogicalLine → Bool
parts_blocks line = says_alone action.Off line || says_alone action.On line || says_alone action.Split line

-- after these lines sorting is off: one of them says `off`, and none after it `on`
abbrev pub is_off_after : List LogicalLine → Bool
is_off_after [] = false
is_off_after (line ∷ lines) = (says_off line && not (list_any says_on lines)) || is_off_after lines

-- what a line that is neither a member nor between members asks of the blank lines before it
pub data Before : Type 0 where
  two : Before
  as_many : Before
  one : Before

-- before a declaration two, before a comment or an import that stays as it is as many as there were, before others one
abbrev pub before_shape : Shape → Before
before_shape shape.Pinned = as_many
before_shape _ = one

abbrev pub before_line : LogicalLine → Shape → Before
before_line line s = if is_declaration line then two else (if is_comment_kind line.kind then as_many else before_shape s)

-- what a line is to sorting: a member of a block, with what it imports and its own comments; comments or a blank line,
-- which may stand between members; or none of these
pub data Role : Type 0 where
  member : List Imported → List (List ℕ) → Role
  comments : List (List ℕ) → Role
  blank : Role
  other : Before → Role

-- a line with its role: its bytes without a byte order mark, its indentation, and whether it has a line end
pub record Row : Type 0 where
  pub text : List ℕ
  pub indentation : List ℕ
  pub ended : Bool
  pub role : Role

-- the imports of a line that can be sorted: those of its bindings
abbrev pub Imports : LogicalLine → List Imported → Type 0
Imports line is = IsSortable line × ((values : List BindingValue) × Binds line values × (is ≡ map imported_of values))

-- what each role means, where sorting is off before the line or not
abbrev pub HasRole : Bool → LogicalLine → Role → Type 0
HasRole off line (member is cs) = (off ≡ false) × Imports line is × (cs ≡ own_comments line)
HasRole off line (comments cs) = (is_comment_kind line.kind ≡ true) × (parts_blocks line ≡ false) × (cs ≡ comment_texts line)
HasRole off line blank = line.kind ≡ unit_kind.Blank
HasRole off line (other b) =
    (s : Shape) × HasShape line s × (b ≡ before_line line s)
    × ((line.kind ≡ unit_kind.Code) × ((off ≡ true) ⊎ ¬ (IsSortable line)) ⊎ (parts_blocks line ≡ true))

-- how many bytes of the byte order mark stand at the beginning of a line, after these: a text has one at its start alone
abbrev pub mark_after : List LogicalLine → LogicalLine → ℕ
mark_after [] line = mark_len line
mark_after (first ∷ others) line = 0

-- the indentation of a line, which stands after a byte order mark
abbrev pub indentation_of : LogicalLine → List ℕ
indentation_of line = slice_range line.text (mark_len line) (mark_len line + line.indent)

-- the line, after these, as a row
pub record IsRow (before : List LogicalLine) (line : LogicalLine) (row : Row) : Type 0 where
  pub role : HasRole (is_off_after before) line row.role
  pub text : row.text ≡ drop (mark_after before line) line.text
  pub indentation : row.indentation ≡ indentation_of line
  pub ended : row.ended ≡ nat_lt 0 line.end_len

-- the rows of lines that stand after others
abbrev pub AreRows : List LogicalLine → List LogicalLine → List Row → Type 0
AreRows before [] rows = rows ≡ []
AreRows before (line ∷ lines) rows =
    (row : Row) × (others : List Row) × (rows ≡ row ∷ others)
    × IsRow before line row × AreRows (before ++ line ∷ []) lines others

-- whether a token is a string
abbrev pub is_string : TokKind → Bool
is_string kind.Str = true
is_string _ = false

abbrev pub string_skips : LogicalLine → Option Token → Bool
string_skips line None = false
string_skips line (Some t) = is_string t.kind && says action.SkipFile (word_of line t)

abbrev pub first_string_skips : List LogicalLine → Bool
first_string_skips [] = false
first_string_skips (line ∷ lines) =
    if is_nothing (significant line.tokens) then first_string_skips lines
    else string_skips line (slice_get (significant line.tokens) 0)

abbrev pub skips_file : List LogicalLine → Bool
skips_file lines = list_any (λ line. list_any (says action.SkipFile) (comment_texts line)) lines || first_string_skips lines
