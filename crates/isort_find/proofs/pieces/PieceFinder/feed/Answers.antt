-- Lines are taken, and after the top the rest.
use Rattle.std.proofs.Common.{ℕ, ◌+◌, length, refl, sym, ap, ◌∙◌, subst}
use Rattle.std.proofs.lemmas.List.{take_rest}
use Rattle.isort_find.specs.Position.{phase_in}
use Rattle.isort_find.specs.Pieces.{PieceFinderState, TakesFromPiece}
use Rattle.isort_find.specs.Private.PieceSteps.{with_passed}
use Rattle.isort_find.proofs.Fed.AfterFault.{faulty_again}
use Rattle.isort_find.proofs.Fed.LetGo.{phase_at}
use Rattle.isort_find.proofs.Fed.WholePiece.{feeds_none, feeds_top, feeds_lines, passes_piece, yet_open, yet_end}
use Rattle.isort_find.proofs.pieces.PieceFinder.feed.Goals as goal

pub returns-in-Fault : goal.returns-in-Fault
returns-in-Fault c =
    let at = phase_at _ _ _ _ c.self.view_is c.phase.ensures c.in-Fault.is in
    record { feeds = (faulty_again c.args.self.now c.in-Fault.fault at).fed c.args.piece.now }

pub returns-in-End-phase : goal.returns-in-End-phase
returns-in-End-phase c =
    let known = c.known_laws.ensures in
    let mid = c.take_lines.new.self in
    let taken = c.in_ok-taken-in-Open-2.taken in
    let opened = phase_at _ _ _ _ c.self.view_is c.phase.ensures c.in-Open.is in
    let at = phase_at _ _ _ _ c.self-in-Open-2.view_is c.phase-in-Open-2.ensures c.in-End-phase.is in
    let rest = ap length (take_rest c.args.piece.now taken) in
    let passed = c.pass-in-End-phase.ensures.passed ∙ ap (with_passed mid) rest in
    let whole = feeds_top known.settled known.ascent c.args.self.now mid c.pass-in-End-phase.new.self c.args.piece.now taken opened (yet_open c.args.self.now opened c.requires.open_yet) (sym c.if-has_ready.ensures) at c.in_ok-taken-in-Open-2.ensures.takes passed in
    record { feeds = subst (λ (n : ℕ). TakesFromPiece c.args.self.now c.args.piece.now (taken + n) c.pass-in-End-phase.new.self) (sym (c.pass-in-End-phase.ensures.all ∙ rest)) whole }

pub returns-in-End : goal.returns-in-End
returns-in-End c =
    let known = c.known_laws.ensures in
    let at = phase_at _ _ _ _ c.self.view_is c.phase.ensures c.in-End.is in
    record { feeds = subst (λ (n : ℕ). TakesFromPiece c.args.self.now c.args.piece.now n c.pass.new.self) (sym c.pass.ensures.all) (passes_piece known.settled known.ascent c.args.self.now c.pass.new.self c.args.piece.now at (yet_end c.args.self.now at c.requires.open_yet) c.pass.ensures.passed) }

pub returns-in_default : goal.returns-in_default
returns-in_default c =
    let opened = phase_at _ _ _ _ c.self.view_is c.phase.ensures c.in-Open.is in
    let taken = c.in_ok-taken-in-Open-2.taken in
    record { feeds = feeds_lines c.known_laws.ensures.settled c.known_laws.ensures.one_settled c.known_laws.ensures.ascent c.args.self.now c.take_lines.new.self c.args.piece.now taken opened (yet_open c.args.self.now opened c.requires.open_yet) (sym c.if-has_ready.ensures) (λ e. c.in_default.not-End (c.phase-in-Open-2.ensures ∙ ap (λ (f : PieceFinderState). phase_in f.position) c.self-in-Open-2.view_is ∙ e)) c.in_ok-taken-in-Open-2.ensures.takes (λ none. c.in_ok-taken-in-Open-2.ensures.done taken refl none) }

pub returns-in-Open : goal.returns-in-Open
returns-in-Open c =
    let opened = phase_at _ _ _ _ c.self.view_is c.phase.ensures c.in-Open.is in
    record { feeds = feeds_none c.known_laws.ensures.settled c.known_laws.ensures.one_settled c.known_laws.ensures.ascent c.args.self.now c.args.piece.now opened (yet_open c.args.self.now opened c.requires.open_yet) (sym c.if-has_ready.ensures) }
