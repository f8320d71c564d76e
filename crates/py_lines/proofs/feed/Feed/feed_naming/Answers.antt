use Rattle.py_lines.proofs.Prelude.{◌≡◌, inl, true, sym, ◌∙◌, arith, is_some, take, ap, ℕ, ◌+◌, err_from_is_err_and, both_ways}
use Rattle.py_lines.specs.ScannerState.{LacksBoth}
use Rattle.py_lines.specs.Private.Feed.{scanning_of}
use Rattle.py_lines.proofs.Feeds.FedScanner.{fed_named, fed_released, fed_short, naming_fails, naming_same, size_held, size_taken, some_taken, stands_taken, waits_so}
use Rattle.py_lines.proofs.Feeds.ReadyLines.{held_within, none_is}
use Rattle.py_lines.proofs.feed.Feed.feed_naming.Goals.{then-is_some-2+else-lacks_both, else-is_some-2}
use Rattle.py_lines.proofs.feed.Feed.feed_naming.Goals as goal

pub returns-then-is_some-clause-feeds : goal.returns-then-is_some-clause-feeds
returns-then-is_some-clause-feeds c =
    let f = c.args.self.now in
    naming_same c.args.word.now c.args.other.now (scanning_of f) (scanning_of f) c.args.piece.now 0 (waits_so f c.args.piece.now c.requires.sound (sym c.is_some.ensures ∙ c.if-is_some.true)) (λ line is. inl is)

pub returns-then-lacks_both : goal.returns-then-lacks_both
returns-then-lacks_both c =
    let (named, sound) = fed_released c.in_ok-taken.ensures (none_is c.args.self.now.ready (sym c.is_some.ensures ∙ c.if-is_some.false)) (sym c.is_some-2.ensures ∙ c.if-is_some-2.true) (rw c.deref.ensures.value at (c.lacks_both.ensures.yes c.if-lacks_both.true)) c.let_go.ensures in
    record { feeds = named; sound = sound }

pub returns : goal.returns
returns c =
    let word = c.args.word.now in let other = c.args.other.now in
    let stays : is_some c.take_bytes.new.self.ready ≡ true → ¬ (LacksBoth word other (take c.take_bytes.new.self.state.scan.stop c.take_bytes.new.self.held.items)) = λ some. elim c.if-is_some-2.branch [
      | then-is_some-2+else-lacks_both w ↦ rw w.deref.ensures.value at (w.lacks_both.ensures.no w.if-lacks_both.false)
      | else-is_some-2 w ↦ absurd (both_ways _ (sym c.is_some-2.ensures ∙ w.if-is_some-2.false) some)
    ] in
    record { feeds = fed_named c.in_ok-taken.ensures stays c.in_ok-read_tokens.ensures; sound = c.in_ok-read_tokens.ensures.sound }

pub take_bytes-requires-clause-sound : goal.take_bytes-requires-clause-sound
take_bytes-requires-clause-sound c = c.requires.sound

pub take_bytes-requires-clause-not_ready : goal.take_bytes-requires-clause-not_ready
take_bytes-requires-clause-not_ready c = none_is c.args.self.now.ready (sym c.is_some.ensures ∙ c.if-is_some.false)

pub returns-in_err-taken : goal.returns-in_err-taken
returns-in_err-taken c =
    let (error, is, same) = err_from_is_err_and c.from_residual.result c.from_residual.ensures.1 in
    record { feeds = rw (is, same) (naming_fails c.args.word.now c.args.other.now _ _ _ _ c.in_err-taken.ensures.0); sound = c.in_err-taken.ensures.1 }

pub read_tokens-requires-clause-holds : goal.read_tokens-requires-clause-holds
read_tokens-requires-clause-holds c = (c.in_ok-taken.ensures.line, c.in_ok-taken.ensures.holds)

pub read_tokens-requires-clause-no_fault : goal.read_tokens-requires-clause-no_fault
read_tokens-requires-clause-no_fault c = c.in_ok-taken.ensures.takes.no_fault

pub read_tokens-requires-clause-room : goal.read_tokens-requires-clause-room
read_tokens-requires-clause-room c = c.in_ok-taken.ensures.room

pub returns-in_err-read_tokens : goal.returns-in_err-read_tokens
returns-in_err-read_tokens c =
    let (error, is, same) = err_from_is_err_and c.from_residual-in_err-read_tokens.result c.from_residual-in_err-read_tokens.ensures.1 in
    let (short, sound) = fed_short c.in_ok-taken.ensures c.requires.sound (none_is c.args.self.now.ready (sym c.is_some.ensures ∙ c.if-is_some.false)) _ c.in_err-read_tokens.ensures in
    record { feeds = rw (is, same) (naming_fails c.args.word.now c.args.other.now _ _ _ _ short); sound = sound }

pub lacks_both-requires : goal.lacks_both-requires
lacks_both-requires c = some_taken c.in_ok-taken.ensures (sym c.is_some-2.ensures ∙ c.if-is_some-2.true) c.deref.ensures.value

pub slice_bounds-text-end : goal.slice_bounds-text-end
slice_bounds-text-end c = size_taken c.in_ok-taken.ensures (sym c.is_some-2.ensures ∙ c.if-is_some-2.true) c.deref.ensures.value

pub line_ends-requires : goal.line_ends-requires
line_ends-requires c = tt

pub overflow_add-line : goal.overflow_add-line
overflow_add-line c =
    let size = size_taken c.in_ok-taken.ensures (sym c.is_some-2.ensures ∙ c.if-is_some-2.true) c.deref.ensures.value in
    let within = held_within c.take_bytes.new.self _ (stands_taken c.in_ok-taken.ensures (sym c.is_some-2.ensures ∙ c.if-is_some-2.true)).1 in
    let room = c.in_ok-taken.ensures.room in
    omega (arith, c.line_ends.ensures.few, size, within, room.fits, room.few_lines)

pub let_go-requires-clause-holds : goal.let_go-requires-clause-holds
let_go-requires-clause-holds c = stands_taken c.in_ok-taken.ensures (sym c.is_some-2.ensures ∙ c.if-is_some-2.true)

pub let_go-requires-clause-room : goal.let_go-requires-clause-room
let_go-requires-clause-room c = c.in_ok-taken.ensures.room

pub let_go-requires-clause-after : goal.let_go-requires-clause-after
let_go-requires-clause-after c = λ read spell. ap (λ (n : ℕ). c.take_bytes.new.self.state.line + n) (c.line_ends.ensures.count read (rw c.deref.ensures.value spell))

pub read_tokens-requires-clause-within : goal.read_tokens-requires-clause-within
read_tokens-requires-clause-within c = omega (arith, size_held c.in_ok-taken.ensures)
