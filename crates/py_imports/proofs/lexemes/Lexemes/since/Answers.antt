-- The lexemes from one place up to another, and those after it, are those from the one place.
use Rattle.std.proofs.Common.{sym}
use Rattle.py_imports.proofs.ReaderLemmas.{terminals-split}
use Rattle.py_imports.proofs.lexemes.Lexemes.since.Goals as goal

pub returns : goal.returns
returns c =
    let s = c.args.self in
    rw (sym c.requires.unit, sym c.requires.end) (terminals-split s.unit.now.text.now s.unit.now.tokens.now c.args.start.place s.place s.end c.requires.place s.ordered)
