-- A gap that is known holds a later line's start too.
use Rattle.std.proofs.Common.{◌-◌, inl, inr, sym, ◌∙◌, arith}
use Rattle.py_imports.proofs.BytePlaces.{later_gap}
use Rattle.py_imports.proofs.first_words.gap_at.Goals as goal
use Rattle.py_imports.proofs.first_words.gap_at.Goals.{then-start-known-2, else-start-known-2}

pub returns-then-opens_statement-clause-from : goal.returns-then-opens_statement-clause-from
returns-then-opens_statement-clause-from c = later_gap c.args.text.now c.args.known.start c.args.known.stop c.args.start c.requires.known (omega arith) (omega arith) (elim c.if-start-known-2.branch [
  | then-start-known-2 w ↦ inl w.if-start-known-2.true
  | else-start-known-2 w ↦ inr (c.args.start - 1, omega (arith, w.if-start-known-2.false), sym w.opens_statement.ensures ∙ sym w.value-is ∙ c.if-opens_statement.true)
])
