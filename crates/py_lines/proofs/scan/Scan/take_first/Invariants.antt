use Rattle.py_lines.proofs.Prelude.{length}
use Rattle.py_lines.proofs.LineTokens.FirstString.{InFirst}
use Rattle.py_lines.proofs.scan.Scan.take_first.Given as goal

abbrev pub invariant-items : goal.invariant-items
invariant-items l = record {
  first : InFirst l.fn.bytes l.self l.rest;
}

abbrev pub decreases-items : goal.decreases-items
decreases-items l = length l.rest
