-- A unit as the logical line that it is, and a line without its tokens as its outline.
use Rattle.py_lines.specs.LogicalLine.{LogicalLine}
use Rattle.py_lines.specs.Outline.{Outline}
use Rattle.py_lines.specs.declared.unit.Line as line
use Rattle.py_lines.specs.declared.unit.Unit as unit

-- the unit as a logical line of the text
abbrev pub line_in : unit.Unit → LogicalLine
line_in u = record {
  kind = u.kind;
  text = u.text.now;
  tokens = u.tokens.now;
  offset = u.offset;
  line = u.line;
  indent = u.indent;
  end_len = u.end_len;
}

-- the line as the outline of a logical line of the text
abbrev pub outline_in : line.Line → Outline
outline_in l = record { kind = l.kind; text = l.text.now; offset = l.offset; line = l.line; indent = l.indent; end_len = l.end_len }
