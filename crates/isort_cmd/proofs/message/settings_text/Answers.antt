-- Each refusal has its own line.
use Rattle.std.proofs.Common.{◌∙◌, refl}
use Rattle.isort_cmd.proofs.message.settings_text.Goals as goal
use Rattle.isort_cmd.proofs.message.settings_text.Goals.{in-Memory, in-BadToml, in-UnknownProfile, in-UnsupportedMode}

pub returns-clause-line : goal.returns-clause-line
returns-clause-line c = c.in_ok-from_str.ensures.ok ∙ elim c.match-error.branch [
  | in-Memory w ↦ rw (w.line-is, w.in-Memory.is) refl
  | in-BadToml w ↦ rw (w.line-is, w.in-BadToml.is) refl
  | in-UnknownProfile w ↦ rw (w.line-is, w.in-UnknownProfile.is) refl
  | in-UnsupportedMode w ↦ rw (w.line-is, w.in-UnsupportedMode.is) refl
]
