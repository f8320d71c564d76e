-- Lines in which no import statement begins are passed over.
use Rattle.std.proofs.Common.{List, ℕ, length, sym, ap, ◌∙◌, subst, arith}
use Rattle.py_imports.specs.FirstWords.{NoImportBegins}
use Rattle.isort_find.specs.Finder.{FinderState, finder_state}
use Rattle.isort_find.specs.Private.FinderSteps.{StandsBefore}
use Rattle.isort_find.specs.Private.Walks.{WalkerState}
use Rattle.isort_find.proofs.Wholes.PassedLines.{from_place, left_position, passed_text, passes_lines}
use Rattle.isort_find.proofs.finder.Finder.pass_lines.Goals as goal

pub returns : goal.returns
returns c =
    let s = c.self.inside in
    let w = s.walker in
    let f = finder_state s.lines w.position w.cursor in
    let start = c.min-start.result in
    let stop = c.clear_up_to-before.result in
    let may = c.may_pass_lines.ensures in
    let law = c.lines_without_import_bind_nothing.ensures in
    let passes = c.pass_lines-passed.ensures.passes in
    let fresh = may.fresh c.if-not-may_pass_lines.false in
    let b = subst (λ (x : FinderState). StandsBefore x x) (sym c.self.view_is) c.requires.stands in
    let none = subst (λ (t : List ℕ). NoImportBegins t start stop) (c.self.invariant.1 ∙ sym c.self.invariant.0) c.clear_up_to-before.ensures.none in
    let passed = passes_lines f stop c.pass_lines-passed.result c.pass_lines-passed.new.self passes
    (λ given has. law.binds passes.lines (law.passed f.reader c.pass_lines-passed.new.self given passes.lines stop has passes.passes (from_place f.reader.text start stop f.reader.place (λ inside. omega (arith, c.min-start.ensures, c.offset.ensures, inside, ap length c.self.invariant.0)) (let within = c.clear_up_to-before.ensures.within in omega (arith, within, ap length (c.self.invariant.1 ∙ sym c.self.invariant.0))) none) (λ more. passes.within (omega (arith, more, passes.place)))))
    (may.counts c.if-not-may_pass_lines.false) fresh b in
    let same = ap (λ (x : WalkerState). finder_state c.pass_lines-passed.new.self x.position x.cursor) c.leave.ensures in
    rw (← c.self.view_is) (subst (StandsBefore f) (sym (same ∙ ap (λ at. finder_state c.pass_lines-passed.new.self at w.cursor) (left_position w.position b.is_open b.read fresh))) passed)

pub invariant_of-self-2 : goal.invariant_of-self-2
invariant_of-self-2 c =
    let passes = c.pass_lines-passed.ensures.passes in
    (passed_text passes.lines c.self.inside.lines c.pass_lines-passed.new.self passes.passes ∙ c.self.invariant.0, c.clear_up_to-before.ensures.same ∙ c.self.invariant.1)
