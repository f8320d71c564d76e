-- The keys answer.
use Rattle.py_imports.specs.BindingValue.{binding_value}
use Rattle.std.proofs.Common.{◌∙◌}
use Rattle.isort_find.proofs.Keys.KeyTexts.{knows}
use Rattle.isort_find.proofs.cursor.Cursor.knows.Goals as goal

pub returns-in-Ok : goal.returns-in-Ok
returns-in-Ok c = rw (← c.self.view_is) (c.contains.ensures ∙ knows c.self.inside.options.unique c.in-Some.key c.self.inside.keys c.in-Ok.text (binding_value c.args.binding.now) c.in-Some.is c.in-Ok.ensures.ok)
