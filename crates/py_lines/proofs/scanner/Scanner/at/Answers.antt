use Rattle.py_lines.proofs.Prelude.{false, length, None, refl, ap, arith}
use Rattle.py_lines.specs.Private.Feed.{Feed}
use Rattle.py_lines.proofs.Feeds.OpenLine.{begun_open}
use Rattle.py_lines.proofs.scanner.Scanner.at.Goals as goal

pub invariant_of-result : goal.invariant_of-result
invariant_of-result c =
    let f : Feed = record { held = c.new.result; state = c.at.result; ready = None; next_line = 0; ended = false } in let begins = c.at.ensures in
    record {
      room = record { fits = omega (arith, begins.place_is, c.requires.offset, ap length c.new.ensures.items); few_lines = omega (arith, begins.place_is, begins.line_is, c.requires.line) };
      state = λ no_fault. (c.new.result.items, begun_open f.state f (record { same = refl; begun = rw begins.place_is begins.begun }));
    }

pub returns-clause-scans : goal.returns-clause-scans
returns-clause-scans c = grind arith
