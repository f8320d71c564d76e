-- What is taken of the last line, or that nothing is ready.
use Rattle.std.proofs.Common.{Option, None, Some, Ok, Err, subst}
use Rattle.py_imports.specs.declared.binding.Binding.{Binding}
use Rattle.isort_find.specs.Private.PieceSteps.{TakesReady}
use Rattle.isort_find.proofs.Fed.AfterFault.{faulty_again}
use Rattle.isort_find.proofs.Fed.LetGo.{phase_at}
use Rattle.isort_find.proofs.Fed.NoneReady.{gives_none_at_top, answers_none}
use Rattle.isort_find.proofs.Fed.OpenYet.{stays_open}
use Rattle.isort_find.proofs.Fed.Ready.{gives_binding, answers_error}
use Rattle.isort_find.proofs.pieces.PieceFinder.next_ready.Goals as goal

pub returns-in-Fault : goal.returns-in-Fault
returns-in-Fault c =
    let at = phase_at _ _ _ _ c.self.view_is c.phase.ensures c.in-Fault.is in
    record { next = (faulty_again c.args.self.now c.in-Fault.field-0 at).asked; open_yet = λ yet. yet }

pub returns-in-Ok-Some : goal.returns-in-Ok-Some
returns-in-Ok-Some c =
    let known = c.known_laws.ensures in
    let opened = phase_at _ _ _ _ c.self.view_is c.phase.ensures c.in-Open.is in
    let takes = subst (λ (x : Option Binding). TakesReady c.args.self.now (Ok x) c.take_ready.new.self) c.in-Ok-Some.field-0-is c.in-Ok-Some.ensures in
    let next = gives_binding known.settled known.one_settled c.args.self.now c.take_ready.new.self c.in-Ok-Some.binding opened takes in
    record { next = next; open_yet = stays_open c.args.self.now (Ok (Some c.in-Ok-Some.binding)) c.take_ready.new.self next }

pub returns-in-Err : goal.returns-in-Err
returns-in-Err c =
    let opened = phase_at _ _ _ _ c.self.view_is c.phase.ensures c.in-Open.is in
    let next = answers_error c.known_laws.ensures.settled c.args.self.now c.take_ready.new.self c.in-Err.error opened c.in-Err.ensures in
    record { next = next; open_yet = stays_open c.args.self.now (Err c.in-Err.error) c.take_ready.new.self next }

pub returns-in-End : goal.returns-in-End
returns-in-End c =
    let known = c.known_laws.ensures in
    let at = phase_at _ _ _ _ c.self.view_is c.phase.ensures c.in-End.is in
    let next = gives_none_at_top known.settled known.one_settled known.ascent c.args.self.now c.rest.new.self at c.rest.ensures in
    record { next = next; open_yet = stays_open c.args.self.now (Ok None) c.rest.new.self next }

pub returns-in-Ok-None : goal.returns-in-Ok-None
returns-in-Ok-None c =
    let known = c.known_laws.ensures in
    let opened = phase_at _ _ _ _ c.self.view_is c.phase.ensures c.in-Open.is in
    let takes = subst (λ (x : Option Binding). TakesReady c.args.self.now (Ok x) c.take_ready.new.self) c.in-Ok-None.field-0-is c.in-Ok-None.ensures in
    let next = answers_none known.settled known.one_settled known.ascent c.args.self.now c.take_ready.new.self c.rest-in-Ok-None.new.self opened takes c.rest-in-Ok-None.ensures in
    record { next = next; open_yet = stays_open c.args.self.now (Ok None) c.rest-in-Ok-None.new.self next }
