use Rattle.py_lines.proofs.Prelude.{ap, ◌∙◌, subst}
use Rattle.py_lines.specs.ScannerState.{Finishes, ScannerState}
use Rattle.py_lines.specs.Private.Feed.{scanning_of}
use Rattle.py_lines.proofs.Feeds.ReadyLines.{none_ready}
use Rattle.py_lines.proofs.scanner.Scanner.finish.Goals as goal

pub finish-requires-clause-not_ready : goal.finish-requires-clause-not_ready
finish-requires-clause-not_ready c = none_ready c.self.inside.feed c.self.inside.feed.ready (ap (λ (s : ScannerState). s.ready) c.self.view_is ∙ c.requires.released)

pub returns : goal.returns
returns c = record { finishes = subst (λ s. Finishes s c.finish.result (scanning_of c.finish.new.self)) c.self.view_is c.finish.ensures.finishes }
