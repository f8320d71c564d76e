-- What contracts see of a `Lines`.
use Rattle.py_lines.specs.Reader.{Reader}
use Rattle.py_lines.specs.declared.source.Source.{Source}

-- the text, the byte and line up to which lines were given, and the fault that was met
abbrev pub reader_of : Source → Reader
reader_of s = record { text = s.bytes.now; place = s.state.place; line = s.state.line; fault = s.state.fault }
