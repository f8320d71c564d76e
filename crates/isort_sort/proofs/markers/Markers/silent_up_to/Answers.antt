use Rattle.std.proofs.Common.{subst}
use Rattle.isort_sort.specs.Private.Markers.{IsSilentBetween}
use Rattle.isort_sort.proofs.Rows.Markers.{later_silence}
use Rattle.isort_sort.proofs.markers.Markers.silent_up_to.Goals as goal

pub returns-clause-silent : goal.returns-clause-silent
returns-clause-silent c =
    let silence = c.silence_at-self-inside.result in
    subst (λ t. IsSilentBetween t c.args.start silence.stop) c.self.view_is (later_silence c.self.inside.text.now silence.start silence.stop c.args.start c.silence_at-self-inside.ensures.silent c.silence_at-self-inside.ensures.start)
