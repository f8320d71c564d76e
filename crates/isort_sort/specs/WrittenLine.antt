-- A statement that sorting has written, read back: the pieces of its lines, and the one logical line that they are.
use Rattle.std.specs.Prelude.{◌≡◌, ℕ, Bool, true, false, nat_lt, List, [], ◌∷◌, ◌++◌, map, encode_utf8_all}
use Rattle.std.specs.List.{AllByRecursion, list_any, list_all}
use Rattle.std.specs.Str.{all_scalars}
use Rattle.py_lines.specs.Balance.{IsBalanced, depth_through}
use Rattle.py_lines.specs.Fields.{IsShallow}
use Rattle.py_lines.specs.Character.{is_break, is_line_feed, is_space}
use Rattle.py_lines.specs.LogicalLine.{LogicalLine, cut, line_of}
use Rattle.py_lines.specs.Neighbours.{AreSimple, MayTouch}
use Rattle.py_lines.specs.Piece.{mark, line_end, Piece, begins, spelled}
use Rattle.py_lines.specs.declared.unit.UnitKind.TheVariants as unit_kind
use Rattle.py_imports.specs.ActionComment.{says}
use Rattle.py_imports.specs.Names.{AreNamed}
use Rattle.py_imports.specs.Shape.{mark_len}
use Rattle.py_imports.specs.declared.action_comment.ActionComment.{ActionComment}
use Rattle.py_imports.specs.declared.action_comment.ActionComment.TheVariants as action
use Rattle.isort_settings.specs.Values.{Values}
use Rattle.isort_sort.specs.Blocks.{Run, members_of, Cut, rest, block}
use Rattle.isort_sort.specs.LaidAgain.{import_of, joined_comments}
use Rattle.isort_sort.specs.Layout.{Laid, own_text}
use Rattle.isort_sort.specs.Line.{comment_texts, IsOwnComment}
use Rattle.isort_sort.specs.Member.{Member}
use Rattle.isort_sort.specs.Row.{member, HasRole, indentation_of, first_string_skips}

-- the byte order mark, where there is one
abbrev pub mark_pieces : Bool → List Piece
mark_pieces true = record { class = mark; text = 0xFEFF ∷ [] } ∷ []
mark_pieces false = []

-- how many bytes it has
abbrev pub mark_bytes : Bool → ℕ
mark_bytes true = 3
mark_bytes false = 0

-- the line end, where there is one
abbrev pub end_pieces : Bool → List ℕ → List Piece
end_pieces true end = record { class = line_end; text = end } ∷ []
end_pieces false end = []

-- A comment that a statement may join: its characters are those of a text without line ends, there is no space at its
-- ends, and it doesn't say `skip`.
pub record IsRemark (text : List ℕ) : Type 0 where
  pub characters : List ℕ
  pub spell : encode_utf8_all characters ≡ text
  pub scalars : all_scalars characters ≡ true
  pub unbroken : list_any is_break characters ≡ false
  pub own : IsOwnComment text
  pub unskipped : says action.Skip text ≡ false

abbrev pub AreRemarks : List (List ℕ) → Type 0
AreRemarks texts = AllByRecursion IsRemark texts

-- a member as it comes from a line that is read: its names are words, and its comments such comments
pub record IsReadMember (m : Member) : Type 0 where
  pub named : AreNamed m.imports
  pub comments : AreRemarks m.comments

abbrev pub AreReadMembers : List Member → Type 0
AreReadMembers members = AllByRecursion IsReadMember members

-- a run as it comes from lines that are read: it is indented by spaces, tabs and form feeds
pub record IsReadRun (run : Run) : Type 0 where
  pub spaces : list_all is_space run.first.indentation ≡ true
  pub members : AreReadMembers (members_of run)

-- each block of a cut is a run as it comes from lines that are read
abbrev pub AreReadBlocks : Cut → Type 0
AreReadBlocks (rest rows) = Unit {0}
AreReadBlocks (block before run blanks cut) = IsReadRun run × AreReadBlocks cut

-- The logical line is a member of a block: it imports what the statement imports, with its joined comments, has this
-- indentation, and says no action in a comment that none of the comments said.
pub record IsWrittenLine (space : List ℕ) (s : Laid) (marked closed : Bool) (line : LogicalLine) : Type 0 where
  pub role : HasRole false line (member (map (import_of s.statement) s.items) (joined_comments s.comments))
  pub indentation : indentation_of line ≡ space
  pub mark : mark_len line ≡ mark_bytes marked
  pub ended : nat_lt 0 line.end_len ≡ closed
  pub code : line.kind ≡ unit_kind.Code
  pub says_no_more : (a : ActionComment) → list_any (says a) s.comments ≡ false → list_any (says a) (comment_texts line) ≡ false
  pub no_string : (lines : List LogicalLine) → first_string_skips (line ∷ lines) ≡ false

-- The pieces are those of a written statement, which has this text: they are read, alone and before a line end, as one
-- logical line.
pub record IsWritten (indentation end : List ℕ) (s : Laid) (text : List ℕ) (pieces : List Piece) : Type 0 where
  pub simple : AreSimple pieces
  pub touch : MayTouch (pieces ++ end_pieces true end)
  pub unbroken : begins is_line_feed (spelled pieces) ≡ false
  pub scalars : all_scalars (spelled pieces) ≡ true
  pub spell : encode_utf8_all (spelled pieces) ≡ text
  pub balanced : IsBalanced pieces
  pub shallow : IsShallow 0 pieces
  pub deep : depth_through 0 pieces ≡ 0
  pub whole : cut 0 pieces ≡ pieces ∷ []
  pub cut : (more : List Piece) → cut 0 (pieces ++ (end_pieces true end ++ more)) ≡ (pieces ++ end_pieces true end) ∷ cut 0 more
  pub line : (marked ended : Bool) (offset line : ℕ)
      → IsWrittenLine indentation s marked ended (line_of offset line (mark_pieces marked ++ (pieces ++ end_pieces ended end)))

-- each statement of a block is written so
abbrev pub EachIsWritten : Values → List ℕ → List ℕ → List Laid → Type 0
EachIsWritten v indentation end [] = Unit {0}
EachIsWritten v indentation end (s ∷ ss) =
    ((pieces : List Piece) × IsWritten indentation end s (own_text v indentation end s) pieces)
    × EachIsWritten v indentation end ss
