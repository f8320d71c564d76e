-- The first byte that is no space, from the place on backwards, tells.
use Rattle.std.proofs.Common.{◌-◌, ◌∙◌, sym, arith}
use Rattle.py_imports.proofs.BytePlaces.{begins_nowhere, more_spaces}
use Rattle.py_imports.proofs.first_words.may_begin.Goals as goal

pub returns-then-not-is_space-clause-no : goal.returns-then-not-is_space-clause-no
returns-then-not-is_space-clause-no c = λ closed. begins_nowhere c.args.text.now c.args.start c.args.place (c.spaces.from - 1) (omega arith) (omega arith) (λ i low high. c.spaces.invariant i (omega (arith, low)) high) (sym c.is_space.ensures ∙ c.if-not-is_space.true) (sym c.opens_statement.ensures ∙ closed)

pub spaces-preserved : goal.spaces-preserved
spaces-preserved c = more_spaces c.args.text.now (c.spaces.from - 1) c.args.place (sym c.is_space.ensures ∙ c.if-not-is_space.false) (λ i low high. c.spaces.invariant i (omega (arith, low)) high)
