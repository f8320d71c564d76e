use Rattle.py_lines.specs.ScannerState.{fed_of}
use Rattle.py_lines.proofs.Prelude.{◌≡◌, [], None, sym, refl, not, IfSome, ◌∙◌, arith, subst, err_from_is_err_and, ap}
use Rattle.py_lines.specs.Private.Feed.{Feed, IsSoundFeed, scanning_of}
use Rattle.py_lines.specs.Private.LineState.{ReadsLine}
use Rattle.py_lines.proofs.Feeds.FedScanner.{fed_short, size_held, takes_read, waits_so}
use Rattle.py_lines.proofs.Feeds.OpenLine.{none_held}
use Rattle.py_lines.proofs.Feeds.ReadyLines.{none_is}
use Rattle.py_lines.proofs.Feeds.SimpleLines.{line_lost, line_taken, not_taken, scans_piece}
use Rattle.py_lines.proofs.feed.Feed.feed.Goals.{Else-is_some, In-Ok-Some, Joined-is_empty, Then-is_empty, Then-is_none, then-is_empty+then-is_none, else-is_empty}
use Rattle.py_lines.proofs.feed.Feed.feed.Goals as goal

pub returns-then-is_some-clause-feeds : goal.returns-then-is_some-clause-feeds
returns-then-is_some-clause-feeds c = waits_so c.args.self.now c.args.piece.now c.requires.sound (sym c.is_some.ensures ∙ c.if-is_some.true)

not_ready : (c : Else-is_some) → c.args.self.now.ready ≡ None
not_ready c = none_is c.args.self.now.ready (sym c.is_some.ensures ∙ c.if-is_some.false)

none_held_yet : (c : Then-is_empty) → c.args.self.now.held.items ≡ []
none_held_yet c = none_held c.args.self.now.held c.is_empty.ensures c.if-is_empty.true

no_fault : (c : Then-is_none) → c.args.self.now.state.fault ≡ None
no_fault c = none_is c.args.self.now.state.fault (c.is_none.ensures ∙ ap not c.if-is_none.true)

-- the line was read
read : (c : In-Ok-Some) → ReadsLine c.args.self.now.state c.args.piece.now c.in-Ok-Some.end_len c.in-Ok-Some.after c.read_simple.new.self
read c = subst (λ o. IfSome o (λ r. ReadsLine c.args.self.now.state c.args.piece.now r.0 r.1 c.read_simple.new.self)) c.in-Ok-Some.field-0-is c.in-Ok-Some.ensures.reads

pub hold-requires-clause-scanned : goal.hold-requires-clause-scanned
hold-requires-clause-scanned c =
    let at = goal.at.hold-requires-clause-scanned c in
    scans_piece c.args.self.now c.args.piece.now c.read_simple.ensures.same (read at.In-Ok-Some) (none_held_yet at.Then-is_empty)

pub hold-requires-clause-not_ready : goal.hold-requires-clause-not_ready
hold-requires-clause-not_ready c = not_ready (goal.at.hold-requires-clause-not_ready c).Else-is_some

pub hold-requires-clause-room : goal.hold-requires-clause-room
hold-requires-clause-room c = grind arith

pub read_simple-requires : goal.read_simple-requires
read_simple-requires c = grind arith

pub returns-in-Ok-Some : goal.returns-in-Ok-Some
returns-in-Ok-Some c =
    let at = goal.at.returns-in-Ok-Some c in
    let (takes, sound) = line_taken c.args.self.now c.requires.sound (no_fault at.Then-is_none) (not_ready at.Else-is_some) c.args.piece.now c.requires.fits c.read_simple.ensures.same
    (read at.In-Ok-Some) (none_held_yet at.Then-is_empty) c.in_ok-taken.ensures.takes c.in_ok-taken.ensures.ready in
    record { feeds = takes; sound = sound }

pub returns-in_err-taken : goal.returns-in_err-taken
returns-in_err-taken c =
    let at = goal.at.returns-in_err-taken c in
    let (error, is, so) = err_from_is_err_and c.from_residual.result c.from_residual.ensures.1 in
    let (lost, sound) = line_lost c.args.self.now c.requires.sound (no_fault at.Then-is_none) (not_ready at.Else-is_some) c.args.piece.now c.requires.fits c.read_simple.ensures.same _ c.in_err-taken.ensures.takes in
    record { feeds = rw (is, so) lost; sound = sound }

-- no simple line was taken
stays : (c : Joined-is_empty) → let now = c.if-is_empty.self in (scanning_of now ≡ scanning_of c.args.self.now) × (now.ready ≡ None) × IsSoundFeed now
stays c =
    let f = c.args.self.now in
    let none = none_is f.ready (sym c.is_some.ensures ∙ c.if-is_some.false) in
    let is : Feed → Type 0 = λ now. (scanning_of now ≡ scanning_of f) × (now.ready ≡ None) × IsSoundFeed now in
    elim c.if-is_empty.branch [
      | then-is_empty+then-is_none w ↦ subst is (sym w.self-is) (not_taken f c.requires.sound (none_is f.state.fault (w.is_none.ensures ∙ ap not w.if-is_none.true)) none w.read_simple.ensures.same w.restart.ensures)
      | else-is_empty w ↦ subst is (sym w.self-is) (refl, none, c.requires.sound)
    ]

pub take_bytes-requires-clause-sound : goal.take_bytes-requires-clause-sound
take_bytes-requires-clause-sound c = (stays (goal.at.take_bytes-requires-clause-sound c).Joined-is_empty).2

pub take_bytes-requires-clause-not_ready : goal.take_bytes-requires-clause-not_ready
take_bytes-requires-clause-not_ready c = (stays (goal.at.take_bytes-requires-clause-not_ready c).Joined-is_empty).1

pub take_bytes-requires-clause-fits : goal.take_bytes-requires-clause-fits
take_bytes-requires-clause-fits c =
    let same = (stays (goal.at.take_bytes-requires-clause-fits c).Joined-is_empty).0 in
    omega (arith, c.requires.fits, ap fed_of same)

pub read_tokens-requires-clause-within : goal.read_tokens-requires-clause-within
read_tokens-requires-clause-within c = omega (arith, size_held c.in_ok-taken-2.ensures)

pub read_tokens-requires-clause-no_fault : goal.read_tokens-requires-clause-no_fault
read_tokens-requires-clause-no_fault c = c.in_ok-taken-2.ensures.takes.no_fault

pub returns-in_err-read_tokens-clause-feeds : goal.returns-in_err-read_tokens-clause-feeds
returns-in_err-read_tokens-clause-feeds c =
    let (error, is, so) = err_from_is_err_and c.from_residual-in_err-read_tokens.result c.from_residual-in_err-read_tokens.ensures.1 in
    let (same, none, sound) = stays (goal.at.returns-in_err-read_tokens-clause-feeds c).Joined-is_empty in
    rw (← same, is, so) (fed_short c.in_ok-taken-2.ensures sound none _ c.in_err-read_tokens.ensures).0

pub returns-in_err-read_tokens-clause-sound : goal.returns-in_err-read_tokens-clause-sound
returns-in_err-read_tokens-clause-sound c =
    let (same, none, sound) = stays (goal.at.returns-in_err-read_tokens-clause-sound c).Joined-is_empty in
    (fed_short c.in_ok-taken-2.ensures sound none _ c.in_err-read_tokens.ensures).1

pub returns-clause-feeds : goal.returns-clause-feeds
returns-clause-feeds c =
    let (same, none, sound) = stays (goal.at.returns-clause-feeds c).Joined-is_empty in
    rw (← same) (takes_read c.in_ok-taken-2.ensures c.in_ok-read_tokens.ensures)
