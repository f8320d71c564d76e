-- The scanner ends the text, and its last line is tried.
use Rattle.std.proofs.Common.{Err, sym, ap, ◌∙◌, subst}
use Rattle.py_lines.specs.ScannerState.{ScannerState, Finishes}
use Rattle.py_lines.specs.declared.fault.LexError.{LexError}
use Rattle.isort_find.specs.Pieces.{PieceFinderState, piece_finder_state, PieceFinderRunsOut, EndsInFault, EndsFeeding}
use Rattle.isort_find.specs.Private.PieceSteps.{LetsLineGo, IsNextStart, TriesReady}
use Rattle.isort_find.specs.declared.error.FindError.{FindError}
use Rattle.isort_find.proofs.Fed.AfterFault.{faulty_again}
use Rattle.isort_find.proofs.Fed.LetGo.{has_let_go, phase_at}
use Rattle.isort_find.proofs.Fed.OneLine.{ends_tried, ends_after_top, ends_lexical, failed_is, takes_no_byte}
use Rattle.isort_find.proofs.Fed.WholePiece.{yet_open}
use Rattle.isort_find.proofs.pieces.PieceFinder.finish.Goals as goal

pub returns-in-Fault : goal.returns-in-Fault
returns-in-Fault c =
    let at = phase_at _ _ _ _ c.self.view_is c.phase.ensures c.in-Fault.is in
    record { finishes = (faulty_again c.args.self.now c.in-Fault.fault at).ended }

pub returns-in-End : goal.returns-in-End
returns-in-End c =
    let at = phase_at _ _ _ _ c.self.view_is c.phase.ensures c.in-End.is in
    record { finishes = ends_after_top c.known_laws.ensures.settled c.known_laws.ensures.ascent c.args.self.now at }

pub returns-in-Ok : goal.returns-in-Ok
returns-in-Ok c =
    let old = c.args.self.now in
    let opened = phase_at _ _ _ _ c.self.view_is c.phase.ensures c.in-Open.is in
    let gone = has_let_go old _ opened c.requires.none_ready (yet_open old opened c.requires.open_yet) (subst (LetsLineGo old) (sym c.self-2.view_is) c.let_go.ensures) in
    let tries = subst (λ (g : PieceFinderState). TriesReady (record g { scanning = c.finish.new.self }) c.try_line.result c.try_line.new.self) gone.is c.try_line.ensures in
    record { finishes = ends_tried c.known_laws.ensures.settled c.known_laws.ensures.one_settled c.known_laws.ensures.ascent old c.self-2.inside.scanner gone.begins c.finish.new.self c.in-Ok.ensures.finishes c.try_line.new.self c.try_line.result tries }

pub returns-in-Err-Fault : goal.returns-in-Err-Fault
returns-in-Err-Fault c =
    let old = c.args.self.now in
    let opened = phase_at _ _ _ _ c.self.view_is c.phase.ensures c.in-Open.is in
    let gone = has_let_go old _ opened c.requires.none_ready (yet_open old opened c.requires.open_yet) (subst (LetsLineGo old) (sym c.self-2.view_is) c.let_go.ensures) in
    let here = subst (λ (g : PieceFinderState). IsNextStart g.scanning c.start-start.result) (sym c.self-2.view_is) c.start-start.ensures in
    let ends = subst (λ (e : LexError). Finishes c.self-2.inside.scanner (Err e) c.finish.new.self) c.in-Err-Fault.field-0-is c.in-Err-Fault.ensures.finishes in
    let met = ends_lexical c.known_laws.ensures.settled old c.self-2.inside.scanner gone.begins c.finish.new.self c.in-Err-Fault.fault c.start-start.result here ends in
    let same = failed_is old c.self-2.inside.walker c.fail.new.self c.self-2.inside.scanner c.finish.new.self c.start-start.result c.in-Err-Fault.fault gone.is c.fail.ensures.kept in
    record { finishes = subst (λ (e : FindError). EndsFeeding old (Err e) (piece_finder_state c.finish.new.self c.fail.new.self.position c.fail.new.self.cursor)) (sym c.fail.ensures.answer) (subst (EndsInFault old c.in-Err-Fault.fault) (sym same) met) }

pub returns-in-Err-Memory : goal.returns-in-Err-Memory
returns-in-Err-Memory c =
    let old = c.args.self.now in
    let opened = phase_at _ _ _ _ c.self.view_is c.phase.ensures c.in-Open.is in
    let gone = has_let_go old _ opened c.requires.none_ready (yet_open old opened c.requires.open_yet) (subst (LetsLineGo old) (sym c.self-2.view_is) c.let_go.ensures) in
    let short = subst (λ (e : LexError). Finishes c.self-2.inside.scanner (Err e) c.finish.new.self) c.in-Err-Memory.field-0-is c.in-Err-Memory.ensures.finishes in
    let w = c.self-2.inside.walker in
    record { finishes = subst (PieceFinderRunsOut old) (sym (ap (λ (s : ScannerState). piece_finder_state s w.position w.cursor) short.same ∙ gone.is)) (takes_no_byte c.known_laws.ensures.settled c.known_laws.ensures.one_settled c.known_laws.ensures.ascent old c.self-2.inside.scanner gone.begins).keeps }
