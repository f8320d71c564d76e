-- A block that was laid out, seen as members again, and what stands after it.
use Rattle.std.specs.Prelude.{◌≡◌, ℕ, false, Option, None, Some, List, [], ◌∷◌, map, codes}
use Rattle.std.specs.List.{join_by}
use Rattle.py_lines.specs.LogicalLine.{LogicalLine}
use Rattle.py_lines.specs.Words.{extent_of}
use Rattle.py_imports.specs.Grammar.{Imported, Item}
use Rattle.isort_sort.specs.Layout.{Laid}
use Rattle.isort_sort.specs.Member.{Member}
use Rattle.isort_sort.specs.Row.{says_off, says_on, Before, Row}
use Rattle.isort_sort.specs.Sorted.{before_role}
use Rattle.isort_sort.specs.Statement.{Statement, straight, star, names, single}

-- what an item of a statement imports
abbrev pub import_of : Statement → Item → Imported
import_of (straight m alias) i = record { module_name = m; attribute_name = None; alias_name = alias }
import_of (star m) i = record { module_name = m; attribute_name = Some (codes "*"); alias_name = None }
import_of (names m) i = record { module_name = m; attribute_name = Some i.path; alias_name = i.alias }
import_of (single m j) i = record { module_name = m; attribute_name = Some i.path; alias_name = i.alias }

-- comments as the one that they are written as
abbrev pub joined_comments : List (List ℕ) → List (List ℕ)
joined_comments [] = []
joined_comments (c ∷ cs) = join_by (λ (t : List ℕ). t) (codes "; ") (c ∷ cs) ∷ []

-- a statement that was laid out, as a member of its own
abbrev pub as_member : Laid → Member
as_member s = record { imports = map (import_of s.statement) s.items; comments = joined_comments s.comments; above = s.above }

-- the statement as that member lays it out: with one comment
abbrev pub with_joined_comments : Laid → Laid
with_joined_comments s = record s { comments = joined_comments s.comments }

-- the statement without the comments above it, as where it stands first: they are then read as standing before the block
abbrev pub without_above : Laid → Laid
without_above s = record s { above = [] }

-- what rows ask of the blank lines before them, if there is a row
abbrev pub asked_by : List Row → Option Before
asked_by [] = None
asked_by (row ∷ rows) = Some (before_role row.role)

-- the lines turn sorting neither off nor on
abbrev pub SwitchNothing : List LogicalLine → Type 0
SwitchNothing [] = Unit {0}
SwitchNothing (line ∷ lines) = (says_off line ≡ false) × (says_on line ≡ false) × SwitchNothing lines

-- the same logical line elsewhere: its tokens have the same kinds and places, and other lines
pub record IsMoved (line other : LogicalLine) : Type 0 where
  pub kind : line.kind ≡ other.kind
  pub text : line.text ≡ other.text
  pub indent : line.indent ≡ other.indent
  pub tokens : map extent_of line.tokens ≡ map extent_of other.tokens
