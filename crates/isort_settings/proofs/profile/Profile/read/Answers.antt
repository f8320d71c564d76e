-- The name is that of a profile, or it isn't.
use Rattle.std.proofs.Common.{sym, ◌∙◌}
use Rattle.std.proofs.lemmas.Bool.{cond-true, cond-false}
use Rattle.isort_settings.proofs.profile.Profile.read.Goals as goal

pub returns-then-eq : goal.returns-then-eq
returns-then-eq c = sym (cond-true _ _ _ (sym c.eq.ensures ∙ c.if-eq.true))

pub returns-else-eq : goal.returns-else-eq
returns-else-eq c = sym (cond-false _ _ _ (sym c.eq.ensures ∙ c.if-eq.false))
