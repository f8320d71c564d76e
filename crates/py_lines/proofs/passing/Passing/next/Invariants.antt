use Rattle.py_lines.proofs.Prelude.{◌-◌, length}
use Rattle.py_lines.proofs.PassedPieces.LineFeeds.{ComesTo}
use Rattle.py_lines.proofs.passing.Passing.next.Given as goal

abbrev pub invariant-feeds : goal.invariant-feeds
invariant-feeds l = ComesTo l.bytes l.frames l.fn.self l.self

abbrev pub decreases-feeds : goal.decreases-feeds
decreases-feeds l = length l.bytes - l.self.marks.base
