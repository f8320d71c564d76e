-- What the program writes of the statements of a block, by their layout.
use Rattle.std.specs.Prelude.{ℕ, List, [], ◌++◌, Option, codes, map, string_bytes}
use Rattle.std.specs.List.{join_by}
use Rattle.py_imports.specs.Grammar.{Item}
use Rattle.isort_settings.specs.Values.{Values, values}
use Rattle.isort_sort.specs.Layout.{own_text}
use Rattle.isort_sort.specs.Private.Group.{Group}
use Rattle.isort_sort.specs.Private.Packing.{gap_lines, laid_of, line_room, next_lines, packed, text_with}
use Rattle.isort_sort.specs.Private.Values.{item_value}
use Rattle.isort_sort.specs.Statement.{Statement}
use Rattle.isort_sort.specs.Wrapping.{flat, four_spaces, hanging, hanging_in_brackets, head, in_brackets, items_text}
use Rattle.isort_sort.specs.Wrapping.{names_text as names_of, remark, statement_text, trailing_comma, wrapped}
use Rattle.isort_sort.specs.declared.layout.Layout.{Layout}
use Rattle.isort_sort.specs.declared.layout.Names.{Names}

-- the settings of a layout
abbrev pub values_by : Layout → Values
values_by l = values l.settings.now

-- the beginning of a `from` statement, and what follows it
abbrev pub opening_text : Layout → List ℕ → List ℕ → List ℕ
opening_text l m opening = l.indentation.now ++ (head m ++ opening)

-- the joined comment, and the line end
abbrev pub line_end_text : Layout → List (List ℕ) → List ℕ
line_end_text l comments = remark comments ++ l.end.now

-- names on lines that are indented further, with this between two of them and before each line end
abbrev pub further_text : Layout → ℕ → List ℕ → List Item → List ℕ
further_text l room between items =
    l.indentation.now
    ++ (four_spaces ++ join_by items_text (between ++ (l.end.now ++ (l.indentation.now ++ four_spaces))) (packed room items))

-- the end of a statement whose closing bracket stands on a line of its own
abbrev pub closing_text : Layout → List ℕ
closing_text l = trailing_comma (values_by l) ++ (l.end.now ++ (l.indentation.now ++ (codes ")" ++ l.end.now)))

-- a statement of names: its joined comment, and its items on lines
abbrev pub names_remark : Names → List ℕ
names_remark n = remark (map string_bytes n.comments.now)

abbrev pub names_items : Names → List Item
names_items n = map item_value n.items.now

abbrev pub names_cut : Layout → Names → List (List Item)
names_cut l n = packed (line_room (values_by l) l.indentation.now n.path.now) (names_items n)

-- wrapped in one of the three ways
abbrev pub in_brackets_text : Layout → Names → List ℕ
in_brackets_text l n =
    in_brackets (values_by l) l.indentation.now l.end.now n.path.now (names_remark n) (names_cut l n) ++ l.end.now

abbrev pub hanging_text : Layout → Names → List ℕ
hanging_text l n = hanging l.indentation.now l.end.now n.path.now (names_remark n) (names_cut l n) ++ l.end.now

abbrev pub hanging_in_brackets_text : Layout → Names → List ℕ
hanging_in_brackets_text l n =
    hanging_in_brackets (values_by l) l.indentation.now l.end.now n.path.now (names_remark n) (names_cut l n) ++ l.end.now

-- wrapped as the settings ask, on one line without its line end, and as it is laid out
abbrev pub wrapped_text : Layout → Names → List ℕ
wrapped_text l n = wrapped (values_by l) l.indentation.now l.end.now n.path.now (names_remark n) (names_cut l n) ++ l.end.now

abbrev pub one_line_text : Layout → Names → List ℕ
one_line_text l n = flat l.indentation.now n.path.now (names_remark n) (names_items n)

abbrev pub names_text : Layout → Names → List ℕ
names_text l n =
    names_of (values_by l) l.indentation.now l.end.now n.path.now (names_remark n) (names_items n) (names_cut l n) ++ l.end.now

-- a statement that has no names to wrap
abbrev pub plain_text : Layout → Statement → List (List ℕ) → List ℕ
plain_text l s comments = statement_text (values_by l) l.indentation.now l.end.now s (remark comments) [] [] ++ l.end.now

-- comments above a statement
abbrev pub above_text : Layout → List (List ℕ) → List ℕ
above_text l above = text_with l.end.now (map (λ c. l.indentation.now ++ c) above)

-- a group, the blank lines before it, and both
abbrev pub group_text : Layout → Group → List ℕ
group_text l g =
    above_text l g.above
    ++ (own_text (values_by l) l.indentation.now l.end.now (laid_of (values_by l) l.indentation.now g) ++ l.end.now)

abbrev pub gap_text : Layout → Option Group → Group → List ℕ
gap_text l before g = text_with l.end.now (gap_lines (values_by l) before g)

abbrev pub next_text : Layout → Option Group → Group → List ℕ
next_text l before g = text_with l.end.now (next_lines (values_by l) l.indentation.now l.end.now before g)
