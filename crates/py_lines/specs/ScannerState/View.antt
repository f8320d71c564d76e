-- What contracts see of a `Scanner`.
use Rattle.std.specs.Prelude.{ℕ, Option, None, Some, take}
use Rattle.py_lines.specs.LogicalLine.{LogicalLine}
use Rattle.py_lines.specs.ScannerState.{ScannerState}
use Rattle.py_lines.specs.Private.LineState.{read_line}
use Rattle.py_lines.specs.declared.feed.Feed.{Feed}

-- the line whose tokens were read, with so many bytes of line end
abbrev pub line_of_feed : Feed → ℕ → LogicalLine
line_of_feed f end_len = read_line f.state (take f.state.scan.stop f.held.items) f.state.place f.state.line end_len

-- the same, where a line is ready
abbrev pub ready_of : Feed → Option ℕ → Option LogicalLine
ready_of f None = None
ready_of f (Some end_len) = Some (line_of_feed f end_len)

-- the byte and line up to which lines were released, the text since, the line that is ready, and the fault
abbrev pub scanning_of : Feed → ScannerState
scanning_of f = record {
  place = f.state.place;
  line = f.state.line;
  held = f.held.items;
  ready = ready_of f f.ready;
  ended = f.ended;
  fault = f.state.fault;
}
