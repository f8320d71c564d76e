use Rattle.std.proofs.lemmas.Grind.{common_steps}
use Rattle.py_lines.proofs.Prelude.{ap, ◌∙◌, not, subst, length, take, length-append, length-drop, arith, length-take-le, err_from_is_err_and}
use Rattle.py_lines.specs.Private.Feed.{EndsWithLine, StandsSo}
use Rattle.py_lines.proofs.Feeds.FedScanner.{errs, fails_more, known_fault, meets, rest_is, settled_held, taken, takes_more, takes_short}
use Rattle.py_lines.proofs.Feeds.ReadyLines.{none_is}
use Rattle.py_lines.proofs.feed.Feed.take_bytes.Goals as goal

pub take-requires-clause-opens : goal.take-requires-clause-opens
take-requires-clause-opens c = subst (StandsSo c.args.self.now) c.requires.not_ready c.requires.sound.state c.in_default.is

pub take-requires-clause-not_ready : goal.take-requires-clause-not_ready
take-requires-clause-not_ready c = c.requires.not_ready

pub take-requires-clause-room : goal.take-requires-clause-room
take-requires-clause-room c = record { fits = c.requires.fits; few_lines = c.requires.sound.room.few_lines }

pub take-requires-in-loop-taken-clause-not_ready : goal.take-requires-in-loop-taken-clause-not_ready
take-requires-in-loop-taken-clause-not_ready c = none_is c.loop-taken.self.ready (c.is_none.ensures ∙ ap not c.if-is_none.true)

pub loop-taken-init : goal.loop-taken-init
loop-taken-init c = let old = c.args.self.now in record { before = old.held.items; none = λ text lines s go. (s.held, settled_held text lines old c.requires.not_ready s); more = c.in_ok-taken.ensures }

pub take-requires-in-loop-taken-clause-opens : goal.take-requires-in-loop-taken-clause-opens
take-requires-in-loop-taken-clause-opens c =
    let t = c.loop-taken.invariant in let s = subst (EndsWithLine t.before c.loop-taken.self) (none_is c.loop-taken.self.ready (c.is_none.ensures ∙ ap not c.if-is_none.true)) t.more.ends in (s.0.stops.left, s.0.stops.reached)

pub take-requires-in-loop-taken-clause-room : goal.take-requires-in-loop-taken-clause-room
take-requires-in-loop-taken-clause-room c =
    let piece = c.args.piece.now in let n = c.loop-taken.taken in let t = c.loop-taken.invariant.more in
    let held = ap length t.text.held ∙ length-append c.args.self.now.held.items (take n piece) in
    record {
      fits = omega (arith, c.requires.fits, t.within, t.text.place, held, length-take-le n piece t.within, ap length (rest_is piece n), length-drop n piece);
      few_lines = omega (arith, c.requires.sound.room.few_lines, t.text.place, t.text.line);
    }

pub overflow_add-taken : goal.overflow_add-taken
overflow_add-taken c =
    let piece = c.args.piece.now in let n = c.loop-taken.taken in omega (arith, c.requires.fits, c.loop-taken.invariant.more.within, c.in-Ok.ensures.within, ap length (rest_is piece n), length-drop n piece)

pub returns-in-Some : goal.returns-in-Some
returns-in-Some c = known_fault c.args.self.now c.args.piece.now c.in-Some.fault c.requires.sound c.in-Some.is

pub returns-in_err-taken : goal.returns-in_err-taken
returns-in_err-taken c =
    let p = err_from_is_err_and c.from_residual.result c.from_residual.ensures.1 in
    rw (p.1, p.2) (errs c.args.self.now c.requires.sound c.in_default.is c.requires.not_ready c.args.piece.now c.requires.fits _ _ c.in_err-taken.ensures)

pub loop-taken-preserved : goal.loop-taken-preserved
loop-taken-preserved c =
    takes_more c.loop-taken.invariant (rest_is c.args.piece.now c.loop-taken.taken) (none_is c.loop-taken.self.ready (c.is_none.ensures ∙ ap not c.if-is_none.true)) c.in-Ok.ensures

pub returns-in-Err-Fault : goal.returns-in-Err-Fault
returns-in-Err-Fault c =
    meets c.args.self.now c.requires.sound c.in_default.is c.requires.not_ready c.args.piece.now c.requires.fits (fails_more c.loop-taken.invariant (rest_is c.args.piece.now c.loop-taken.taken) (rw c.in-Err-Fault.field-0-is at c.in-Err-Fault.ensures))

pub returns-in-Err-Memory : goal.returns-in-Err-Memory
returns-in-Err-Memory c =
    takes_short (taken c.args.self.now c.requires.sound c.in_default.is c.requires.not_ready c.args.piece.now c.requires.fits c.loop-taken.invariant) (none_is c.loop-taken.self.ready (c.is_none.ensures ∙ ap not c.if-is_none.true))
    (rw c.in-Err-Memory.field-0-is at c.in-Err-Memory.ensures)

pub returns-else-is_none : goal.returns-else-is_none
returns-else-is_none c = taken c.args.self.now c.requires.sound c.in_default.is c.requires.not_ready c.args.piece.now c.requires.fits c.loop-taken.invariant

pub returns-after-loop-taken : goal.returns-after-loop-taken
returns-after-loop-taken c = taken c.args.self.now c.requires.sound c.in_default.is c.requires.not_ready c.args.piece.now c.requires.fits c.loop-taken.invariant

pub loop-taken-smaller : goal.loop-taken-smaller
loop-taken-smaller c = grind (arith, common_steps)

pub slice_bounds-take-start : goal.slice_bounds-take-start
slice_bounds-take-start c = grind arith

pub slice_bounds-take-count : goal.slice_bounds-take-count
slice_bounds-take-count c = grind arith
