-- The layout of a block.
use Rattle.std.specs.Prelude.{◌≡◌, ℕ, Bool, not, ◌&&◌, List, [], ◌∷◌, ◌++◌, map, flat_map, if◌then◌else◌, max, replicate}
use Rattle.std.specs.List.{join_by}
use Rattle.py_imports.specs.Grammar.{Item}
use Rattle.isort_settings.specs.FiveSections.{same_section}
use Rattle.isort_settings.specs.Values.{Values}
use Rattle.isort_sort.specs.Statement.{Statement, module_of, is_from, section_of}
use Rattle.isort_sort.specs.Member.{Member, AreStatements, AreItemsOf, comments_of, above_of}
use Rattle.isort_sort.specs.Wrapping.{IsCut, fits_line, remark, statement_text}

-- a statement as it is laid out: its items in order and cut into lines, the comments that it joins, those above it
pub record Laid : Type 0 where
  pub statement : Statement
  pub items : List Item
  pub cut : List (List Item)
  pub comments : List (List ℕ)
  pub above : List (List ℕ)

-- how a statement of a block is laid out
pub record IsLaid (v : Values) (indentation : List ℕ) (members : List Member) (s : Laid) : Type 0 where
  pub items : AreItemsOf v members s.statement s.items
  pub cut : IsCut (fits_line v indentation (module_of s.statement)) s.items s.cut
  pub comments : s.comments ≡ comments_of v members s.statement
  pub above : s.above ≡ above_of v members s.statement

abbrev pub EachIsLaid : Values → List ℕ → List Member → List Laid → Type 0
EachIsLaid v indentation members [] = Unit {0}
EachIsLaid v indentation members (s ∷ ss) = IsLaid v indentation members s × EachIsLaid v indentation members ss

-- the statements of a block in order, each laid out
pub record AreLaid (v : Values) (indentation : List ℕ) (members : List Member) (laid : List Laid) : Type 0 where
  pub statements : AreStatements v members (map (λ s. s.statement) laid)
  pub each : EachIsLaid v indentation members laid

-- how many blank lines stand between two statements by their sections and forms
abbrev pub gap_by_kind : Values → Statement → Statement → ℕ
gap_by_kind v a b =
    if not (same_section (section_of v a) (section_of v b)) then v.lines_between_sections
    else (if not v.force_sort_within_sections && not (is_from a) && is_from b then v.lines_between_types else 0)

-- how many a comment above a statement asks for
abbrev pub gap_by_comment : Values → List (List ℕ) → ℕ
gap_by_comment v [] = 0
gap_by_comment v (c ∷ cs) = if v.ensure_newline_before_comments then 1 else 0

-- a statement's own text, with its joined comment
abbrev pub own_text : Values → List ℕ → List ℕ → Laid → List ℕ
own_text v indentation end s = statement_text v indentation end s.statement (remark s.comments) s.items s.cut

-- the logical lines of one statement, with the comments above it
abbrev pub own_lines : Values → List ℕ → List ℕ → Laid → List (List ℕ)
own_lines v indentation end s = map (λ c. indentation ++ c) s.above ++ own_text v indentation end s ∷ []

-- how many blank lines stand between two statements
abbrev pub gap : Values → Laid → Laid → ℕ
gap v a b = max (gap_by_kind v a.statement b.statement) (gap_by_comment v b.above)

-- the logical lines of the statements after one
abbrev pub lines_after : Values → List ℕ → List ℕ → Laid → List Laid → List (List ℕ)
lines_after v indentation end a [] = []
lines_after v indentation end a (b ∷ ss) =
    replicate (gap v a b) [] ++ (own_lines v indentation end b ++ lines_after v indentation end b ss)

-- the logical lines of a block
abbrev pub block_lines : Values → List ℕ → List ℕ → List Laid → List (List ℕ)
block_lines v indentation end [] = []
block_lines v indentation end (s ∷ ss) = own_lines v indentation end s ++ lines_after v indentation end s ss

-- lines, each with a line end, and then blank ones; or, where the last has no line end, with line ends between them
abbrev pub text_of_lines : List ℕ → Bool → ℕ → List (List ℕ) → List ℕ
text_of_lines end ended blanks lines =
    if ended then flat_map (λ l. l ++ end) (lines ++ replicate blanks []) else join_by (λ (l : List ℕ). l) end lines
