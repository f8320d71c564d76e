-- No token passed is a comment that says `skip`.
use Rattle.std.proofs.Common.{true, false, sym}
use Rattle.py_imports.specs.Shape.{says_skip}
use Rattle.py_imports.proofs.ShapeLemmas.{any_here}
use Rattle.py_imports.proofs.sortable.says_skip.Goals as goal

pub returns-then-is_skip : goal.returns-then-is_skip
returns-then-is_skip c = sym (any_here (says_skip c.args.unit.now.text.now) c.args.unit.now.tokens.now c.tokens.place true c.tokens-test.true c.tokens.invariant c.if-is_skip.ensures)

pub tokens-preserved : goal.tokens-preserved
tokens-preserved c = any_here (says_skip c.args.unit.now.text.now) c.args.unit.now.tokens.now c.tokens.place false c.tokens-test.true c.tokens.invariant c.if-is_skip.ensures
