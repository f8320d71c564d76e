-- A line without `import` and `from` binds nothing.
use Rattle.std.proofs.Common.{map, sym, subst}
use Rattle.py_lines.specs.Lines.{line_in}
use Rattle.py_imports.specs.Binds.{Binds}
use Rattle.py_imports.specs.BindingValue.{binding_value}
use Rattle.py_imports.proofs.bindings.bindings_of.Goals as goal

pub returns-else-has_first_word-clause-ok : goal.returns-else-has_first_word-clause-ok
returns-else-has_first_word-clause-ok c = subst (λ bindings. Binds (line_in c.args.unit.now) (map binding_value bindings)) (sym c.new.ensures.items) (c.has_first_word.ensures.none c.if-has_first_word.false)
