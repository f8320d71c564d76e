use Rattle.std.proofs.Common.{◌||◌, sym, ap, ◌∙◌}
use Rattle.py_lines.specs.Lines.{line_in}
use Rattle.isort_sort.specs.Private.Reading.{has_code}
use Rattle.isort_sort.proofs.Rows.Skips.{code_found, skip_pushed}
use Rattle.isort_sort.proofs.skip.SkipReader.push.Goals as goal

pub returns-then-self : goal.returns-then-self
returns-then-self c =
    let line = line_in c.args.unit.now in
    skip_pushed line c.args.self.now _ (c.skips_with.ensures line c.requires) (c.if-self.true ∙ sym (ap (λ b. b || has_code line) c.if-self.true))

pub returns-else-self : goal.returns-else-self
returns-else-self c =
    let line = line_in c.args.unit.now in
    skip_pushed line c.args.self.now _ (c.skips_with.ensures line c.requires) (c.is_some.ensures ∙ code_found line c.first_code.result c.first_code.ensures ∙ sym (ap (λ b. b || has_code line) c.if-self.false))
