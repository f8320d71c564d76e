-- What the text of a logical line shows of it without its tokens.
use Rattle.std.specs.Prelude.{ℕ, List, [], ◌∷◌, drop, if◌then◌else◌}
use Rattle.std.specs.List.{prefix_len}
use Rattle.py_lines.specs.Character.{is_break, is_hash, is_space}
use Rattle.py_lines.specs.LogicalLine.{LogicalLine}
use Rattle.py_lines.specs.Outline.{Outline}
use Rattle.py_lines.specs.Private.LineTokens.{mark_len}
use Rattle.py_lines.specs.declared.token.Token.{Token}
use Rattle.py_lines.specs.declared.unit.UnitKind.{UnitKind}
use Rattle.py_lines.specs.declared.unit.UnitKind.TheVariants as unit_kind

-- the text after a mark, if it begins with one
abbrev pub unmarked : List ℕ → List ℕ
unmarked text = drop (mark_len text) text

-- how many bytes of space it begins with then
abbrev pub indent_in : List ℕ → ℕ
indent_in text = prefix_len is_space (unmarked text)

-- what a line holds of which this comes after mark and space
abbrev pub kind_from : List ℕ → UnitKind
kind_from [] = unit_kind.Blank
kind_from (c ∷ cs) = if is_break c then unit_kind.Blank else (if is_hash c then unit_kind.Comment else unit_kind.Code)

abbrev pub kind_in : List ℕ → UnitKind
kind_in text = kind_from (drop (indent_in text) (unmarked text))

-- the outline of the logical line that has this text
abbrev pub outline_at : List ℕ → ℕ → ℕ → ℕ → Outline
outline_at text offset line end_len = record {
  kind = kind_in text;
  text = text;
  offset = offset;
  line = line;
  indent = indent_in text;
  end_len = end_len;
}

-- the logical line that has these tokens
abbrev pub with_tokens : Outline → List Token → LogicalLine
with_tokens o tokens = record {
  kind = o.kind;
  text = o.text;
  tokens = tokens;
  offset = o.offset;
  line = o.line;
  indent = o.indent;
  end_len = o.end_len;
}
