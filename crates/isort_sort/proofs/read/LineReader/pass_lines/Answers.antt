-- The lines that were passed over bind nothing and say nothing.
use Rattle.std.proofs.Common.{ℕ, ◌<◌, ◌≤◌, List, sym, ap, subst, ◌∙◌, arith}
use Rattle.py_imports.specs.FirstWords.{LieWithoutImport}
use Rattle.isort_sort.specs.Private.Markers.{IsFree}
use Rattle.isort_sort.specs.Private.Reading.{IsKnown}
use Rattle.isort_sort.specs.declared.read.LineReader.{LineReader}
use Rattle.isort_sort.proofs.Readings.PassedLines.{all_passed, later_place, same_text}
use Rattle.isort_sort.proofs.read.LineReader.pass_lines.Goals as goal

pub returns-clause-known : goal.returns-clause-known
returns-clause-known c =
    let old = c.args.self.now in
    let before = c.args.lines.now in
    let after = c.pass_lines.new.self in
    let passes = c.pass_lines.ensures.passes in
    let stop = c.free_up_to.result in
    let free : IsFree before.text before.place stop = subst (λ (n : ℕ). IsFree before.text n stop) c.offset-start.ensures (subst (λ (t : List ℕ). IsFree t c.offset-start.result stop) c.requires.text c.free_up_to.ensures.free) in
    let within : before.place < after.place → after.place ≤ stop = λ more. passes.within (omega (arith, more, passes.place)) in
    let law = c.lines_without_import_bind_nothing.ensures in
    let lie : LieWithoutImport passes.lines = law.passed before after c.requires.known.given passes.lines stop c.requires.known.are_given passes.passes free.0 within in
    let known = all_passed stop passes.lines before after old passes.passes within (law.binds passes.lines lie) (law.begins passes.lines lie) free.1 (c.may_pass.ensures c.if-not-may_pass.false) c.requires.known in
    subst (λ (r : LineReader). IsKnown after r) (λ i. record old { blocks = sym (c.pass.ensures ∙ ap (λ (n : ℕ). record old.blocks { place = n }) c.offset.ensures) i }) known

pub returns-clause-same : goal.returns-clause-same
returns-clause-same c = same_text c.pass_lines.ensures.passes.lines c.args.lines.now c.pass_lines.new.self c.pass_lines.ensures.passes.passes

pub returns-clause-further : goal.returns-clause-further
returns-clause-further c = later_place c.pass_lines.ensures.passes.lines c.args.lines.now c.pass_lines.new.self c.pass_lines.ensures.passes.passes
