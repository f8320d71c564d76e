use Rattle.py_lines.proofs.Prelude.{subst}
use Rattle.py_lines.specs.ScannerState.{Feeds}
use Rattle.py_lines.specs.Private.Feed.{scanning_of}
use Rattle.py_lines.proofs.scanner.Scanner.feed.Goals as goal

pub returns : goal.returns
returns c = record { feeds = subst (λ s. Feeds s c.args.piece.now c.feed.result (scanning_of c.feed.new.self)) c.self.view_is c.feed.ensures.feeds }

pub feed-requires-clause-fits : goal.feed-requires-clause-fits
feed-requires-clause-fits c = rw (← c.self.view_is) at c.requires.fits
