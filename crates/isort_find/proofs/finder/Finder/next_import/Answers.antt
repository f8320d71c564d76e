-- The call has ended where its finder stands.
use Rattle.std.proofs.Common.{◌≡◌, Ok, Option, Result, refl, sym, ap, ◌∙◌, subst}
use Rattle.py_imports.specs.declared.binding.Binding.{Binding}
use Rattle.isort_find.specs.Finder.{FinderState, GivesNext}
use Rattle.isort_find.specs.Position.{phase_in}
use Rattle.isort_find.specs.Private.FinderSteps.{GivesNew, ReadsOn}
use Rattle.isort_find.specs.declared.error.FindError.{FindError}
use Rattle.isort_find.proofs.Wholes.Calls.{goes_start, is_end_phase, goes_to_end, goes_to_fault, looks_on, reads_on}
use Rattle.isort_find.proofs.finder.Finder.next_import.Goals as goal
use Rattle.isort_find.proofs.finder.Finder.next_import.Goals.{else-is_within, in-Fault, in-Open, then-is_within+in_ok-binding+in_default}
use Rattle.isort_find.specs.declared.walker.Phase.TheVariants as phase

pub lines-init : goal.lines-init
lines-init c = goes_start _

pub lines-preserved : goal.lines-preserved
lines-preserved c =
    let initial = c.args.self.now in
    let last = c.lines.self in
    let next = c.read_line.new.self in
    let opened : phase_in last.position ≡ phase.Open = ap (λ (f : FinderState). phase_in f.position) (sym c.self.view_is) ∙ c.lines-test.ensures.0 refl in
    elim c.if-is_within.branch [
      | then-is_within+in_ok-binding+in_default w ↦
          let looks = subst (λ r. GivesNew last (Ok r) w.next_new.new.self) w.in_default.is w.in_ok-binding.ensures in
          reads_on (looks_on c.lines.invariant opened looks) looks.is_open (subst (λ f. ReadsOn f next) w.self-is c.in_ok-read_line.ensures)
      | else-is_within w ↦ reads_on c.lines.invariant opened (subst (λ f. ReadsOn f next) w.self-is c.in_ok-read_line.ensures)
    ]

pub returns : goal.returns
returns c =
    let last = c.lines.self in
    let at = ap (λ (f : FinderState). phase_in f.position) (sym c.self-2.view_is) ∙ sym c.phase.ensures in
    elim c.match-phase.branch [
      | in-Fault w ↦ record { next = subst (λ (r : Result (Option Binding) FindError). GivesNext c.args.self.now r last) (sym w.result-is) (goes_to_fault c.args.self.now last w.in-Fault.fault c.lines.invariant (at ∙ w.in-Fault.is)) }
      | in-Open w ↦
          let before = ap (λ (f : FinderState). phase_in f.position) (sym c.self.view_is) in
          let ended = is_end_phase (phase_in last.position) _ _ at before w.in-Open.is (λ e. let t = c.lines-test.ensures.1 e in cc) in
          record { next = subst (λ (r : Result (Option Binding) FindError). GivesNext c.args.self.now r last) (sym w.result-is) (goes_to_end c.args.self.now last c.lines.invariant ended) }
    ]
