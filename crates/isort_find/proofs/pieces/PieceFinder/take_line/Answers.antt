-- Bytes are taken up to a line's end, and the line is tried, or was let go at once.
use Rattle.std.proofs.Common.{Err, sym, ap, ◌∙◌, subst}
use Rattle.std.proofs.lemmas.Result.{err_from_is_err_and}
use Rattle.py_lines.specs.declared.fault.LexError.{LexError}
use Rattle.isort_find.specs.Private.PieceSteps.{FeedsLine, TakesBytesOf}
use Rattle.isort_find.specs.declared.error.FindError.{FindError}
use Rattle.isort_find.proofs.Fed.LineAtOnce.{fault_one, memory_one, takes_one, tries_one_bad}
use Rattle.isort_find.proofs.pieces.PieceFinder.take_line.Goals as goal

pub returns-in_ok-try_line-in-Ok : goal.returns-in_ok-try_line-in-Ok
returns-in_ok-try_line-in-Ok c =
    let known = c.known_laws.ensures in
    takes_one known.settled known.one_settled known.ascent c.lines_without_import_bind_nothing.ensures.binds c.args.self.now
    c.feed_line.new.self c.try_line.new.self c.requires.between c.requires.open_yet c.args.piece.now c.in-Ok.taken c.in-Ok.ensures
    c.try_line.result c.in_ok-try_line-in-Ok.was c.try_line.ensures

pub returns-in_err-try_line-in-Ok : goal.returns-in_err-try_line-in-Ok
returns-in_err-try_line-in-Ok c =
    let p = err_from_is_err_and c.from_residual.result c.from_residual.ensures.1 in
    tries_one_bad c.known_laws.ensures.settled c.args.self.now c.feed_line.new.self c.try_line.new.self c.requires.between
    c.requires.open_yet c.args.piece.now c.in-Ok.taken c.in-Ok.ensures c.try_line.result c.in_err-try_line-in-Ok.field-0.0
    c.from_residual.result c.in_err-try_line-in-Ok.was (p.1 ∙ ap Err p.2) c.try_line.ensures

pub returns-in-Err-Fault : goal.returns-in-Err-Fault
returns-in-Err-Fault c =
    let old = c.args.self.now in
    let known = c.known_laws.ensures in
    let feeds = subst (λ (e : LexError). FeedsLine old c.args.piece.now (Err e) c.feed_line.new.self) c.in-Err-Fault.field-0-is
    c.in-Err-Fault.ensures in
    let met = fault_one known.settled known.each_lexed old c.feed_line.new.self c.fail.new.self c.requires.between c.requires.open_yet
    c.args.piece.now c.in-Err-Fault.fault c.start-start.result c.start-start.ensures feeds c.fail.ensures.kept in
    subst (λ (e : FindError). TakesBytesOf old c.args.piece.now (Err e) c.fail.new.self) (sym c.fail.ensures.answer) met

pub returns-in-Err-Memory : goal.returns-in-Err-Memory
returns-in-Err-Memory c =
    let old = c.args.self.now in
    let known = c.known_laws.ensures in
    let feeds = subst (λ (e : LexError). FeedsLine old c.args.piece.now (Err e) c.feed_line.new.self) c.in-Err-Memory.field-0-is
    c.in-Err-Memory.ensures in
    memory_one known.settled known.one_settled known.ascent old c.feed_line.new.self c.requires.between c.requires.open_yet
    c.args.piece.now feeds
