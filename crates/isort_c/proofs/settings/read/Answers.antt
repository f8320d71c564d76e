use Rattle.std.proofs.Common.{sym, ◌∙◌, rules}
use Rattle.std.specs.Arc.{arc_value}
use Rattle.isort_c.specs.Kept.{read_values}
use Rattle.isort_c.specs.Readings.{reading}
use Rattle.isort_c.proofs.ReadingLemmas.{reading-unprofiled, reading-ok, reading-refused, stands_shared}
use Rattle.isort_c.proofs.settings.read.Goals as goal

pub returns-in_err-profile-clause-err : goal.returns-in_err-profile-clause-err
returns-in_err-profile-clause-err c =
    let unread = reading-unprofiled c.args.text.now c.args.profile _ (sym c.profile_at.ensures ∙ c.in_err-profile.was) in search rules

pub returns-in-Ok-clause-ok : goal.returns-in-Ok-clause-ok
returns-in-Ok-clause-ok c =
    let stands = reading-ok c.args.text.now c.args.profile _ _ (sym c.profile_at.ensures ∙ c.in_ok-profile.was) c.in-Ok.ensures.ok in
    stands_shared (λ a. read_values (arc_value a)) (reading c.args.text.now c.args.profile) _ _ stands c.shared.ensures.ok

pub returns-in-Err-clause-err : goal.returns-in-Err-clause-err
returns-in-Err-clause-err c =
    rw c.refused.ensures (reading-refused c.args.text.now c.args.profile _ c.in-Err.error (sym c.profile_at.ensures ∙ c.in_ok-profile.was) c.in-Err.ensures.refused)
