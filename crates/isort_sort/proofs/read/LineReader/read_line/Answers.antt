use Rattle.std.proofs.Common.{[], Ok, sym, ◌∙◌, subst}
use Rattle.std.proofs.lemmas.Result.{err_from_is_err_and}
use Rattle.py_lines.specs.Lines.{line_in, ReadsNextLine, ReadsTokens}
use Rattle.py_lines.specs.Reader.{Continues}
use Rattle.isort_sort.specs.Private.Markers.{HoldsLineAt}
use Rattle.isort_sort.specs.Private.Found.{IsFurther}
use Rattle.isort_sort.specs.Private.Reading.{stop_of, IsKnown}
use Rattle.isort_sort.specs.declared.read.LineReader.{LineReader}
use Rattle.isort_sort.proofs.Readings.ReadSoFar.{continues, further_on, reads_end, reads_line, refuses_text, refuses_line}
use Rattle.isort_sort.proofs.Rows.Texts.{line_stands}
use Rattle.isort_sort.proofs.read.LineReader.read_line.Goals.{In_ok-unit}
use Rattle.isort_sort.proofs.read.LineReader.read_line.Goals as goal

-- the line that was read goes on after it
on : (c : In_ok-unit) → Continues c.args.lines.now (line_in c.in_ok-unit.unit) c.tokens.follows.lender-at-none
on c = continues c.in_ok-line.ensures.next c.in-Some.is c.tokens.follows.holds-at-none c.in_ok-unit.was

-- and stands in the text
stands : (c : In_ok-unit) → HoldsLineAt c.args.markers.now (line_in c.in_ok-unit.unit)
stands c =
    let next = on c in
    let given = c.requires.known.given in
    subst (λ t. HoldsLineAt t (line_in c.in_ok-unit.unit)) (next.text ∙ sym c.requires.text) (line_stands _ given (line_in c.in_ok-unit.unit) (next.given given c.requires.known.are_given))

pub returns-in_err-line-clause-reads : goal.returns-in_err-line-clause-reads
returns-in_err-line-clause-reads c =
    let p = err_from_is_err_and c.from_residual.result c.from_residual.ensures.1 in
    rw (p.1, p.2) (refuses_text c.args.lines.now _ c.args.self.now c.in_err-line.field-0.0 (subst (λ r. ReadsNextLine c.args.lines.now r c.next_line.new.self) c.in_err-line.was c.next_line.ensures.next) c.requires.known)

-- there was no memory for its tokens
pub returns-in_err-unit-clause-reads : goal.returns-in_err-unit-clause-reads
returns-in_err-unit-clause-reads c =
    let p = err_from_is_err_and c.from_residual-in_err-unit.result c.from_residual-in_err-unit.ensures.1 in
    let memory = subst (ReadsTokens c.in-Some.line) c.in_err-unit.was c.tokens.follows.holds-at-none.1 in
    rw (p.1, p.2, memory) tt

pub pass-requires : goal.pass-requires
pass-requires c = stands (goal.at.pass-requires c).In_ok-unit

pub returns-in_default-clause-reads : goal.returns-in_default-clause-reads
returns-in_default-clause-reads c = reads_end _ _ c.args.self.now (subst (λ o. ReadsNextLine c.args.lines.now (Ok o) c.next_line.new.self) c.in_default.is c.in_ok-line.ensures.next) c.requires.known

pub of-requires : goal.of-requires
of-requires c = subst (λ t. HoldsLineAt t (line_in c.in_ok-unit.unit)) (sym c.pass.ensures.markers) (stands (goal.at.of-requires c).In_ok-unit)

pub push-requires-clause-further : goal.push-requires-clause-further
push-requires-clause-further c =
    let line = line_in c.in_ok-unit.unit in
    subst (λ (r : LineReader). IsFurther (stop_of line) r.blocks) (sym (c.pass.ensures.same c.if-not-pass.true)) (further_on _ _ c.args.self.now line (on (goal.at.push-requires-clause-further c).In_ok-unit) c.requires.known)

pub returns-in_ok-push-clause-reads : goal.returns-in_ok-push-clause-reads
returns-in_ok-push-clause-reads c =
    let known = subst (λ (r : LineReader). IsKnown c.args.lines.now r) (sym (c.pass.ensures.same c.if-not-pass.true)) c.requires.known in
    reads_line _ _ c.pass.new.self _ (line_in c.in_ok-unit.unit) _ (on (goal.at.returns-in_ok-push-clause-reads c).In_ok-unit) c.in_ok-bindings.ensures.ok c.in_ok-push.ensures known

pub returns-else-not-pass-clause-reads : goal.returns-else-not-pass-clause-reads
returns-else-not-pass-clause-reads c =
    reads_line _ _ c.args.self.now _ (line_in c.in_ok-unit.unit) [] (on (goal.at.returns-else-not-pass-clause-reads c).In_ok-unit) (c.pass.ensures.binds c.if-not-pass.false) (c.pass.ensures.on c.if-not-pass.false) c.requires.known

pub returns-in_err-bindings-clause-reads : goal.returns-in_err-bindings-clause-reads
returns-in_err-bindings-clause-reads c =
    let p = err_from_is_err_and c.from_residual-in_err-bindings.result c.from_residual-in_err-bindings.ensures.1 in
    rw (p.1, p.2) (refuses_line c.args.lines.now _ c.args.self.now (line_in c.in_ok-unit.unit) c.in_err-bindings.field-0.0 (on (goal.at.returns-in_err-bindings-clause-reads c).In_ok-unit) c.in_err-bindings.ensures.err c.requires.known)
