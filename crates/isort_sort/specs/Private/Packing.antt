-- How the program wraps statements and cuts their items into lines, and the text that it writes.
use Rattle.std.specs.Prelude.{◌≡◌, ℕ, ◌+◌, ◌-◌, ◌<◌, ◌==◌, Bool, not, ◌&&◌, ◌||◌, List, []}
use Rattle.std.specs.Prelude.{◌∷◌, ◌++◌, Option, None, Some, map, flat_map, length, if◌then◌else◌, max, nat_le, replicate}
use Rattle.py_imports.specs.Grammar.{Item}
use Rattle.isort_settings.specs.Values.{Values}
use Rattle.isort_sort.specs.Private.Group.{Group}
use Rattle.isort_sort.specs.declared.group.Group as code
use Rattle.isort_sort.specs.declared.wrap_mode.WrapMode.{WrapMode}
use Rattle.isort_sort.specs.declared.wrap_mode.WrapMode.TheVariants as mode
use Rattle.isort_sort.specs.declared.wrapping.Wrap.{Wrap}
use Rattle.isort_sort.specs.Layout.{Laid, gap_by_kind, gap_by_comment, own_lines, lines_after, block_lines}
use Rattle.isort_sort.specs.Statement.{module_of, section_of}
use Rattle.isort_sort.specs.Private.Values.{statement_value}
use Rattle.isort_sort.specs.Width.{width}
use Rattle.isort_sort.specs.Wrapping.{head, items_text, is_forced}

-- the mode is the one that the settings ask for
abbrev pub IsMode : Values → WrapMode → Type 0
IsMode v mode.Grid = v.multi_line_output ≡ 0
IsMode v mode.Vertical = v.multi_line_output ≡ 1
IsMode v mode.HangingIndent = v.multi_line_output ≡ 2
IsMode v mode.VerticalHangingIndent = 2 < v.multi_line_output

-- the end of a line of items, and the beginning of the next one
abbrev pub next_line : Wrap → List ℕ
next_line w = w.between.now ++ (w.end.now ++ (w.indentation.now ++ replicate w.spaces 32))

-- how many characters the items on a line of a wrapped statement may have, where they are several
abbrev pub line_room : Values → List ℕ → List ℕ → ℕ
line_room v indentation m =
    if v.multi_line_output == 0 then v.line_length - (width indentation + (width (head m) + 2))
    else (if v.multi_line_output == 2 then v.line_length - (width indentation + 7) else 0)

-- the line, with the items that still fit on it, and the lines after it
unfoldable pub packed_after : ℕ → List Item → List Item → List (List Item)
packed_after room [] line = line ∷ []
packed_after room (i ∷ items) line =
    if nat_le (width (items_text (line ++ i ∷ []))) room then packed_after room items (line ++ i ∷ [])
    else line ∷ packed_after room items (i ∷ [])

-- items on lines, as many on each as fit
abbrev pub packed : ℕ → List Item → List (List Item)
packed room [] = []
packed room (i ∷ items) = packed_after room items (i ∷ [])

-- how the program lays out a group
abbrev pub laid_of : Values → List ℕ → Group → Laid
laid_of v indentation g = record {
  statement = g.statement;
  items = g.items;
  cut = packed (line_room v indentation (module_of g.statement)) g.items;
  comments = g.comments;
  above = g.above;
}

-- whether a statement of names is wrapped, which would be this on one line
abbrev pub wraps : Values → List ℕ → List Item → Bool
wraps v line items =
    not (nat_le v.multi_line_output 1 && (length items == 1)) && (is_forced v items || not (nat_le (width line) v.line_length))

-- lines, each with a line end
abbrev pub text_with : List ℕ → List (List ℕ) → List ℕ
text_with end lines = flat_map (λ l. l ++ end) lines

-- the blank lines between a group and the one before it, if there is one
abbrev pub gap_lines : Values → Option Group → Group → List (List ℕ)
gap_lines v None g = []
gap_lines v (Some before) g = replicate (max (gap_by_kind v before.statement g.statement) (gap_by_comment v g.above)) []

-- the lines of a group after the one before it
abbrev pub next_lines : Values → List ℕ → List ℕ → Option Group → Group → List (List ℕ)
next_lines v indentation end before g = gap_lines v before g ++ own_lines v indentation end (laid_of v indentation g)

-- the lines of the groups that are left, after the group before them, if there is one
abbrev pub lines_left : Values → List ℕ → List ℕ → Option Group → List Group → List (List ℕ)
lines_left v indentation end None groups = block_lines v indentation end (map (laid_of v indentation) groups)
lines_left v indentation end (Some before) groups =
    lines_after v indentation end (laid_of v indentation before) (map (laid_of v indentation) groups)

-- the group's section is that of its statement
abbrev pub HasSection : Values → code.Group → Type 0
HasSection v g = g.section ≡ section_of v (statement_value g.statement)
