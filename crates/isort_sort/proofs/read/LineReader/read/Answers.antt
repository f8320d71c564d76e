use Rattle.std.proofs.Common.{Ok, length, ap, ◌∙◌, subst, arith}
use Rattle.std.proofs.lemmas.Result.{err_from_is_err_and}
use Rattle.isort_sort.specs.Answers.{IsRefused}
use Rattle.isort_sort.specs.Private.Reading.{IsWholeRead, ReadsOver}
use Rattle.isort_sort.proofs.read.LineReader.read.Goals as goal

pub returns-in_err-read_line-clause-err : goal.returns-in_err-read_line-clause-err
returns-in_err-read_line-clause-err c =
    let p = err_from_is_err_and c.from_residual-in_err-read_line.result c.from_residual-in_err-read_line.ensures.1 in
    rw (p.1, p.2) (subst (λ t. IsRefused t c.in_err-read_line.field-0.0) (c.pass_lines.ensures.same ∙ c.lines.invariant.same) c.in_err-read_line.ensures.reads)

pub returns-then-not-branch-clause-ok : goal.returns-then-not-branch-clause-ok
returns-then-not-branch-clause-ok c =
    subst (λ t. IsWholeRead t c.read_line.new.self) (c.pass_lines.ensures.same ∙ c.lines.invariant.same)
    (subst (λ b. ReadsOver c.pass_lines.new.lines (Ok b) c.read_line.new.lines c.read_line.new.self) c.if-not-branch.true c.in_ok-read_line.ensures.reads)

pub lines-smaller : goal.lines-smaller
lines-smaller c =
    let reads = subst (λ b. ReadsOver c.pass_lines.new.lines (Ok b) c.read_line.new.lines c.read_line.new.self) c.if-not-branch.false c.in_ok-read_line.ensures.reads in
    omega (arith, reads.2, reads.0.within, ap length reads.1, ap length c.pass_lines.ensures.same, ap length c.lines.invariant.same, c.pass_lines.ensures.further)

pub lines-preserved : goal.lines-preserved
lines-preserved c =
    let reads = subst (λ b. ReadsOver c.pass_lines.new.lines (Ok b) c.read_line.new.lines c.read_line.new.self) c.if-not-branch.false c.in_ok-read_line.ensures.reads in
    record {
      markers = c.read_line.ensures.markers ∙ c.pass_lines.ensures.markers ∙ c.lines.invariant.markers;
      same = reads.1 ∙ c.pass_lines.ensures.same ∙ c.lines.invariant.same;
      known = reads.0;
    }
