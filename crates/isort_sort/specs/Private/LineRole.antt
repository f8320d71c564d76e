-- What the program makes of a line.
use Rattle.std.specs.Prelude.{◌≡◌, Bool, true, false, if◌then◌else◌}
use Rattle.py_lines.specs.LogicalLine.{LogicalLine}
use Rattle.py_lines.specs.declared.unit.UnitKind.TheVariants as unit_kind
use Rattle.py_imports.specs.Shape.{IsSortable}
use Rattle.isort_sort.specs.Row as row
use Rattle.isort_sort.specs.Row.{Before, is_comment_kind, parts_blocks, says_off, says_on, HasRole}
use Rattle.isort_sort.specs.declared.row.BlankLines.{BlankLines}
use Rattle.isort_sort.specs.declared.row.BlankLines.TheVariants as lines
use Rattle.isort_sort.specs.declared.row.Role.{Role}
use Rattle.isort_sort.specs.declared.row.Role.TheVariants as role

abbrev pub before_of : BlankLines → Before
before_of lines.Two = row.two
before_of lines.AsMany = row.as_many
before_of lines.One = row.one

-- the line's role, where sorting is off before it or not, without what the line holds
abbrev pub IsOfRole : Bool → LogicalLine → Role → Type 0
IsOfRole off line role.Member = (off ≡ false) × IsSortable line
IsOfRole off line role.Comments = (is_comment_kind line.kind ≡ true) × (parts_blocks line ≡ false)
IsOfRole off line role.Blank = line.kind ≡ unit_kind.Blank
IsOfRole off line (role.Other b) = HasRole off line (row.other (before_of b))

-- whether sorting is off after a line, where it was off before it or not
abbrev pub turned : Bool → LogicalLine → Bool
turned off line = if says_off line then true else (if says_on line then false else off)
