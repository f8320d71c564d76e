-- A line without either word binds nothing, and begins with none.
use Rattle.std.proofs.Common.{sym, ap, ◌∙◌, subst}
use Rattle.py_lines.specs.Lines.{line_in}
use Rattle.isort_sort.specs.Private.Reading.{ReadsLine}
use Rattle.isort_sort.specs.declared.read.LineReader.{LineReader}
use Rattle.isort_sort.proofs.Readings.Passing.{begins_none, passed_on}
use Rattle.isort_sort.proofs.Rows.Silence.{silent_actions}
use Rattle.isort_sort.proofs.read.LineReader.pass.Goals as goal

pub returns-clause-on : goal.returns-clause-on
returns-clause-on c = λ is.
    let line = line_in c.args.unit.now in
    let old = c.args.self.now in
    subst (λ (r : LineReader). ReadsLine line old r) (λ i. record old { blocks = sym (c.pass.ensures ∙ ap (λ n. record old.blocks { place = n }) c.of-line.ensures.stop) i })
    (passed_on line old c.of-line.ensures.utf8 (silent_actions line (c.is_silent.ensures.silent c.if-not-is_silent.false)) (begins_none line (sym c.has_first_word.ensures.word ∙ c.if-has_first_word.false)) (c.may_pass.ensures c.if-not-may_pass.false))

pub returns-clause-binds : goal.returns-clause-binds
returns-clause-binds c = λ is. c.has_first_word.ensures.none c.if-has_first_word.false
