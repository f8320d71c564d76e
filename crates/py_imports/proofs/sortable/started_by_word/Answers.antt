-- The first token that is no comment begins an import statement, or none does.
use Rattle.py_lines.specs.Lines.{line_in}
use Rattle.py_lines.specs.declared.token.Token.{Token}
use Rattle.py_lines.specs.declared.token.TokKind.TheVariants as kind
use Rattle.py_imports.proofs.ShapeLemmas.{first_code_at, first_code_within, begins_no_import, begins_one}
use Rattle.py_imports.proofs.sortable.started_by_word.Goals as goal

pub returns-in_err-form : goal.returns-in_err-form
returns-in_err-form c =
    let none : Token = record { kind = kind.Name; start = 0; stop = 0; line = 0 } in
    let line = line_in c.args.unit.now in
    let first = first_code_at line.tokens c.in_ok-place.place c.in_ok-place.ensures in
    rw c.from_residual-in_err-form.ensures (begins_no_import line c.in_ok-place.place none c.word.result.now first c.in-Code.is (first_code_within line.tokens c.in_ok-place.place c.in_ok-place.ensures) (c.word.ensures first.first first.at) c.in_err-form.ensures.form)

pub returns : goal.returns
returns c =
    let none : Token = record { kind = kind.Name; start = 0; stop = 0; line = 0 } in
    let line = line_in c.args.unit.now in
    let first = first_code_at line.tokens c.in_ok-place.place c.in_ok-place.ensures in
    begins_one line c.in_ok-place.place none c.word.result.now c.in_ok-form.form first c.in-Code.is (first_code_within line.tokens c.in_ok-place.place c.in_ok-place.ensures) (c.word.ensures first.first first.at) c.in_ok-form.ensures.form
