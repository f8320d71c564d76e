use Rattle.py_lines.proofs.Prelude.{subst}
use Rattle.py_lines.specs.ScannerState.{FeedsNaming}
use Rattle.py_lines.specs.Private.Feed.{scanning_of}
use Rattle.py_lines.proofs.scanner.Scanner.feed_naming.Goals as goal

pub returns : goal.returns
returns c = record { feeds = subst (λ s. FeedsNaming c.args.word.now c.args.other.now s c.args.piece.now c.feed_naming.result (scanning_of c.feed_naming.new.self)) c.self.view_is c.feed_naming.ensures.feeds }

pub feed_naming-requires-clause-fits : goal.feed_naming-requires-clause-fits
feed_naming-requires-clause-fits c = rw (← c.self.view_is) at c.requires.fits
