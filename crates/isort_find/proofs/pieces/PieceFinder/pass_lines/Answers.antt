-- The line read last is let go, and lines that bind nothing are passed over.
use Rattle.std.proofs.Common.{◌≡◌, List, ℕ, ◌+◌, ◌-◌, drop, length, sym, ap, ◌∙◌, subst, arith}
use Rattle.std.proofs.lemmas.List.{drop-drop, take_rest}
use Rattle.py_lines.specs.ScannerState.{PassesPieceLines}
use Rattle.py_imports.specs.FirstWords.{NoImportBegins}
use Rattle.isort_find.specs.Pieces.{PieceFinderState, piece_finder_state}
use Rattle.isort_find.specs.Position.{skip_in}
use Rattle.isort_find.specs.Private.PieceSteps.{LetsLineGo, PassesLines}
use Rattle.isort_find.proofs.Fed.LetGo.{has_let_go}
use Rattle.isort_find.proofs.Fed.PassedLines.{len_within, passed_bind, passes_lines, passes_none, taken_by}
use Rattle.isort_find.proofs.pieces.PieceFinder.pass_lines.Goals as goal

pub returns-then-not-may_pass_lines-clause-passes : goal.returns-then-not-may_pass_lines-clause-passes
returns-then-not-may_pass_lines-clause-passes c =
    let old = c.args.self.now in
    let gone = has_let_go old _ c.requires.is_open c.requires.none_ready c.requires.open_yet (subst (LetsLineGo old) (sym c.self.view_is) c.let_go.ensures) in
    let rest = drop c.args.start c.args.piece.now in
    subst (PassesLines old rest 0) (sym gone.is ∙ c.self.view_is) (passes_none old c.self.inside.scanner gone.begins rest)

pub returns-then-held-start-clause-passes : goal.returns-then-held-start-clause-passes
returns-then-held-start-clause-passes c =
    let old = c.args.self.now in
    let gone = has_let_go old _ c.requires.is_open c.requires.none_ready c.requires.open_yet (subst (LetsLineGo old) (sym c.self.view_is) c.let_go.ensures) in
    let rest = drop c.args.start c.args.piece.now in
    subst (PassesLines old rest 0) (sym gone.is ∙ c.self.view_is) (passes_none old c.self.inside.scanner gone.begins rest)

pub returns-then-begins_import-clause-passes : goal.returns-then-begins_import-clause-passes
returns-then-begins_import-clause-passes c =
    let old = c.args.self.now in
    let gone = has_let_go old _ c.requires.is_open c.requires.none_ready c.requires.open_yet (subst (LetsLineGo old) (sym c.self.view_is) c.let_go.ensures) in
    let rest = drop c.args.start c.args.piece.now in
    subst (PassesLines old rest 0) (sym gone.is ∙ c.self.view_is) (passes_none old c.self.inside.scanner gone.begins rest)

pub returns-clause-passes : goal.returns-clause-passes
returns-clause-passes c =
    let old = c.args.self.now in
    let piece = c.args.piece.now in
    let start = c.args.start in
    let gone = has_let_go old _ c.requires.is_open c.requires.none_ready c.requires.open_yet (subst (LetsLineGo old) (sym c.self.view_is) c.let_go.ensures) in
    let t = c.self.inside.scanner in
    let s = c.pass_lines-passed.new.self in
    let held = ap length c.held-held.ensures in
    let first = start - length c.held-held.result.now in
    let stop = c.clear_up_to.result in
    let before = stop - first in
    let len = c.pass_lines-passed.result in
    let passes = subst (λ (bytes : List ℕ). PassesPieceLines t bytes before len s) (take_rest piece first) c.pass_lines-passed.ensures.passes in
    let fresh = ap (λ (f : PieceFinderState). skip_in f.position) (sym gone.is) ∙ c.may_pass_lines.ensures.fresh c.if-not-may_pass_lines.false in
    let counts = ap (λ (f : PieceFinderState). f.cursor.options.top_only) (sym gone.is) ∙ c.may_pass_lines.ensures.counts c.if-not-may_pass_lines.false in
    let none = subst (λ (text : List ℕ). NoImportBegins text first stop) c.requires.text c.clear_up_to.ensures.none in
    let bind = passed_bind c.lines_without_import_bind_nothing.ensures.binds piece first stop len passes.lines none (omega (arith, c.requires.within)) (omega (arith, c.clear_up_to.ensures.further, passes.ends)) (len_within t s (drop first piece) before len passes) passes.texts in
    let there : drop (length t.held) (drop first piece) ≡ drop start piece = drop-drop (length t.held) first piece ∙ ap (λ (k : ℕ). drop k piece) (omega (arith, held, c.if-held-start.false)) in
    let taken : taken_by t len s ≡ len + length c.held.result.now - length c.held-held.result.now = omega (arith, held, ap length c.held.ensures) in
    let walker = c.self.inside.walker in
    let after = piece_finder_state s walker.position walker.cursor in
    subst (λ (n : ℕ). PassesLines old (drop start piece) n after) taken
    (subst (λ (bytes : List ℕ). PassesLines old bytes (taken_by t len s) after) there
    (subst (PassesLines old (drop (length t.held) (drop first piece)) (taken_by t len s)) (ap (λ (f : PieceFinderState). record f { scanning = s }) (sym gone.is)) (passes_lines old t gone.begins s (drop first piece) before len passes fresh counts bind)))
