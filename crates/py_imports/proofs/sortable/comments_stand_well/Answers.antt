-- Each token passed stands well, and `after_opening` tells of the last one.
use Rattle.py_lines.specs.declared.token.TokKind.TheVariants as kind
use Rattle.py_imports.proofs.ShapeLemmas.{stand_well_more}
use Rattle.py_imports.proofs.sortable.comments_stand_well.Goals as goal

pub tokens-preserved : goal.tokens-preserved
tokens-preserved c = stand_well_more c.args.tokens.now c.tokens.place c.tokens.after_opening c.stands_well.result c.is_operator-after_opening.result (record { kind = kind.Name; start = 0; stop = 0; line = 0 }) c.tokens.invariant c.tokens-test.true c.stands_well.ensures c.if-not-stands_well.false c.is_operator-after_opening.ensures
