-- Lines are taken until one gives a binding, or the piece is out.
use Rattle.std.proofs.Common.{◌≡◌, Ok, Err, List, ℕ, length, take, drop, nat_lt, sym, ◌∙◌, subst, ap, ◌+◌, ◌-◌, arith}
use Rattle.std.proofs.lemmas.List.{take_rest, length-drop}
use Rattle.isort_find.specs.Position.{phase_in, ready_in}
use Rattle.isort_find.specs.Pieces.{PieceFinderState, piece_finder_state, MeetsFaultIn}
use Rattle.isort_find.specs.Private.PieceSteps.{IsToGoOn, IsToStop, TakesBytesOf, TakesLineOf, TakesLines}
use Rattle.isort_find.specs.Private.Walks.{WalkerState}
use Rattle.isort_find.specs.declared.error.FindError.{FindError}
use Rattle.isort_find.proofs.Fed.MoreLines.{advances_more, advances_none, takes_more, fault_after, line_advances, line_fewer, line_stops, lost, lost_after, keeps_after}
use Rattle.isort_find.proofs.pieces.PieceFinder.take_lines.Goals as goal

pub lines-init : goal.lines-init
lines-init c = record {
  advances = advances_none c.args.self.now c.args.piece.now;
  within = omega arith;
  fed = omega arith;
  is_open = c.requires.is_open;
  none_ready = c.requires.none_ready;
  open_yet = c.requires.open_yet;
  text = c.new-words.ensures;
}

pub take_line-requires-clause-fits : goal.take_line-requires-clause-fits
take_line-requires-clause-fits c =
    let at = c.lines.taken + c.pass_lines-taken.result in
    let passes = c.pass_lines-taken.ensures.passes.advances in
    let fed = c.lines.invariant.fed in
    let within = c.lines.invariant.within in
    let more = passes.within in
    let fits = c.requires.fits in
    omega (arith, fed, passes.fed, within, more, fits, ap length (take_rest c.args.piece.now at), length-drop at c.args.piece.now, length-drop c.lines.taken c.args.piece.now)

pub take_line-requires-clause-open_yet : goal.take_line-requires-clause-open_yet
take_line-requires-clause-open_yet c = c.pass_lines-taken.ensures.passes.advances.open_yet ∙ c.lines.invariant.open_yet

pub take_line-requires-clause-between : goal.take_line-requires-clause-between
take_line-requires-clause-between c = c.pass_lines-taken.ensures.passes.between

pub lines-smaller : goal.lines-smaller
lines-smaller c =
    let piece = c.args.piece.now in
    let at = c.lines.taken + c.pass_lines-taken.result in
    let passes = c.pass_lines-taken.ensures.passes in
    let mid = c.pass_lines-taken.new.self in
    let last = c.take_line.new.self in
    let next = subst (λ (bytes : List ℕ). TakesLineOf mid bytes (Ok c.in-Ok.more) last) (take_rest piece at) c.in-Ok.ensures in
    let within = passes.advances.within in
    let more = (line_advances mid last (drop at piece) c.in-Ok.more next).within in
    let size : length piece - (at + c.in-Ok.more) + (c.pass_lines-taken.result + c.in-Ok.more) ≡ length piece - c.lines.taken = omega (arith, within, more, c.lines.invariant.within, length-drop at piece, length-drop c.lines.taken piece) in
    let goes = subst (IsToGoOn last (nat_lt (at + c.in-Ok.more) (length piece))) c.start-place.ensures.offset
    (c.goes_on.ensures.goes c.if-not-goes_on.false) in
    line_fewer c.lines.self.scanning mid last piece (length piece - c.lines.taken) (length piece - (at + c.in-Ok.more)) at
    c.pass_lines-taken.result c.in-Ok.more size passes.advances.held passes.gone (ap phase_in passes.between.position) next goes

pub lines-preserved : goal.lines-preserved
lines-preserved c =
    let at = c.lines.taken + c.pass_lines-taken.result in
    let mid = c.pass_lines-taken.new.self in
    let last = c.take_line.new.self in
    let passes = c.pass_lines-taken.ensures.passes.advances in
    let passed = advances_more c.args.self.now c.lines.self mid c.args.piece.now c.lines.taken c.pass_lines-taken.result
    c.lines.invariant.advances passes in
    let next = subst (λ (bytes : List ℕ). TakesLineOf mid bytes (Ok c.in-Ok.more) last) (take_rest c.args.piece.now at) c.in-Ok.ensures in
    let all = advances_more c.args.self.now mid last c.args.piece.now at c.in-Ok.more passed
    (line_advances mid last (drop at c.args.piece.now) c.in-Ok.more next) in
    let goes = c.goes_on.ensures.goes c.if-not-goes_on.false in
    record {
      advances = all;
      within = all.within;
      fed = all.fed;
      is_open = goes.is_open;
      none_ready = goes.none_ready;
      open_yet = all.open_yet ∙ c.requires.open_yet;
      text = c.pass_lines-taken.ensures.text ∙ c.lines.invariant.text;
    }

pub returns-then-not-goes_on-clause-takes : goal.returns-then-not-goes_on-clause-takes
returns-then-not-goes_on-clause-takes c =
    let piece = c.args.piece.now in
    let at = c.lines.taken + c.pass_lines-taken.result in
    let mid = c.pass_lines-taken.new.self in
    let last = c.take_line.new.self in
    let passed = advances_more c.args.self.now c.lines.self mid piece c.lines.taken c.pass_lines-taken.result c.lines.invariant.advances
    c.pass_lines-taken.ensures.passes.advances in
    let line = subst (λ (bytes : List ℕ). TakesLineOf mid bytes (Ok c.in-Ok.more) last) (take_rest piece at) c.in-Ok.ensures in
    let next = line_stops mid last (drop at piece) c.in-Ok.more (nat_lt (at + c.in-Ok.more) (length piece)) line
    (λ none. subst (IsToStop last (nat_lt (at + c.in-Ok.more) (length piece))) c.start-place.ensures.offset
    (c.goes_on.ensures.done c.if-not-goes_on.true none)) in
    takes_more c.args.self.now mid last piece at c.in-Ok.more passed next

pub returns-in-Err-Fault-clause-takes : goal.returns-in-Err-Fault-clause-takes
returns-in-Err-Fault-clause-takes c =
    let old = c.args.self.now in
    let mid = c.pass_lines-taken.new.self in
    let last = c.take_line.new.self in
    let at = c.lines.taken + c.pass_lines-taken.result in
    let bytes = take (length c.args.piece.now - at) (drop at c.args.piece.now) in
    let passed = advances_more old c.lines.self mid c.args.piece.now c.lines.taken c.pass_lines-taken.result c.lines.invariant.advances c.pass_lines-taken.ensures.passes.advances in
    let met = subst (λ (e : FindError). TakesBytesOf mid bytes (Err e) last) c.in-Err-Fault.field-0-is c.in-Err-Fault.ensures in
    let next = subst (λ (rest : List ℕ). MeetsFaultIn mid rest c.in-Err-Fault.fault last) (take_rest c.args.piece.now at) met in
    rw c.in-Err-Fault.field-0-is (fault_after old mid last c.args.piece.now at c.in-Err-Fault.fault c.requires.is_open c.requires.none_ready (ap phase_in c.pass_lines-taken.ensures.passes.between.position) passed next)

pub returns-in-Err-Memory-clause-takes : goal.returns-in-Err-Memory-clause-takes
returns-in-Err-Memory-clause-takes c =
    let old = c.args.self.now in
    let mid = c.pass_lines-taken.new.self in
    let last = c.take_line.new.self in
    let at = c.lines.taken + c.pass_lines-taken.result in
    let bytes = take (length c.args.piece.now - at) (drop at c.args.piece.now) in
    let passed = advances_more old c.lines.self mid c.args.piece.now c.lines.taken c.pass_lines-taken.result c.lines.invariant.advances c.pass_lines-taken.ensures.passes.advances in
    let keeps = subst (λ (e : FindError). TakesBytesOf mid bytes (Err e) last) c.in-Err-Memory.field-0-is c.in-Err-Memory.ensures in
    keeps_after old mid last c.args.piece.now at c.if-taken-eq0.true c.requires.is_open c.requires.none_ready (ap ready_in c.pass_lines-taken.ensures.passes.between.position) passed keeps

pub returns-in-Err-Memory-2-clause-takes : goal.returns-in-Err-Memory-2-clause-takes
returns-in-Err-Memory-2-clause-takes c =
    let old = c.args.self.now in
    let mid = c.pass_lines-taken.new.self in
    let last = c.take_line.new.self in
    let at = c.lines.taken + c.pass_lines-taken.result in
    let bytes = take (length c.args.piece.now - at) (drop at c.args.piece.now) in
    let passed = advances_more old c.lines.self mid c.args.piece.now c.lines.taken c.pass_lines-taken.result c.lines.invariant.advances c.pass_lines-taken.ensures.passes.advances in
    let keeps = subst (λ (e : FindError). TakesBytesOf mid bytes (Err e) last) c.in-Err-Memory.field-0-is c.in-Err-Memory.ensures in
    let all = lost_after old mid last c.args.piece.now at c.start-start.result c.if-taken-eq0.false passed keeps in
    let same = ap (λ (x : WalkerState). piece_finder_state c.self.inside.scanner x.position x.cursor) c.lose.ensures ∙ ap (λ (f : PieceFinderState). lost f c.start-start.result) c.self.view_is in
    subst (TakesLines old c.args.piece.now at) (sym same) all
