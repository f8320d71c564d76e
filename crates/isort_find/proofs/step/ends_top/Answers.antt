-- With `top_only` a declaration ends the top.
use Rattle.std.proofs.Common.{Bool, ◌&&◌, sym, ap, ◌∙◌}
use Rattle.py_lines.specs.UnitLine.{line_in}
use Rattle.py_imports.specs.Declaration.{is_declaration}
use Rattle.isort_find.proofs.step.ends_top.Goals as goal

pub returns-then-options : goal.returns-then-options
returns-then-options c = c.is_declaration.ensures ∙ ap (λ (b : Bool). b && is_declaration (line_in c.args.unit.now)) (sym c.if-options.true)
