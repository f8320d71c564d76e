use Rattle.py_lines.proofs.Prelude.{◌≡◌, ℕ, IsSome, Some, subst, sym, arith}
use Rattle.py_lines.specs.ScannerState.{ScannerState}
use Rattle.py_lines.specs.Private.Feed.{IsReady}
use Rattle.py_lines.proofs.Feeds.Released.{ready_from, release_seen}
use Rattle.py_lines.proofs.scanner.Scanner.release.Goals.{After-let_go-arg-1}
use Rattle.py_lines.proofs.scanner.Scanner.release.Goals as goal

pub invariant_of-self : goal.invariant_of-self
invariant_of-self c = (release_seen c.self.inside.feed c.let_go.new.self c.args.self.now c.self.view_is c.self.invariant c.requires.ready c.let_go.ensures).1

pub returns : goal.returns
returns c = record { releases = (release_seen c.self.inside.feed c.let_go.new.self c.args.self.now c.self.view_is c.self.invariant c.requires.ready c.let_go.ensures).0 }

-- the line that is ready
ready : (c : After-let_go-arg-1) → (n : ℕ) × (c.self.inside.feed.ready ≡ Some n) × IsReady c.self.inside.feed n
ready c = ready_from c.self.inside.feed c.self.invariant (subst (λ (s : ScannerState). IsSome s.ready) (sym c.self.view_is) c.requires.ready)

pub let_go-requires-clause-holds : goal.let_go-requires-clause-holds
let_go-requires-clause-holds c = let at = ready c in (at.0, at.2.holds)

pub let_go-requires-clause-after : goal.let_go-requires-clause-after
let_go-requires-clause-after c = grind arith
