use Rattle.py_lines.proofs.Prelude.{◌-◌, length}
use Rattle.py_lines.proofs.Feeds.FedScanner.{TakesSoFar}
use Rattle.py_lines.proofs.feed.Feed.take_bytes.Given as goal

abbrev pub invariant-loop-taken : goal.invariant-loop-taken
invariant-loop-taken l = TakesSoFar l.fn.self l.piece l.taken l.self

abbrev pub decreases-loop-taken : goal.decreases-loop-taken
decreases-loop-taken l = length l.piece - l.taken
