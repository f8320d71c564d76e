use Rattle.std.proofs.Common.{arith, refl}
use Rattle.std.proofs.lemmas.Grind.{common_steps}
use Rattle.isort_sort.proofs.finder.OpenBlock.push_member.Goals as goal

pub returns-in_err-push-clause-blanks : goal.returns-in_err-push-clause-blanks
returns-in_err-push-clause-blanks c = refl

pub returns-clause-value : goal.returns-clause-value
returns-clause-value c = grind (arith, common_steps)

pub returns-clause-blanks : goal.returns-clause-blanks
returns-clause-blanks c = refl
