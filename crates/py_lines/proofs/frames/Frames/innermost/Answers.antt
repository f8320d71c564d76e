use Rattle.py_lines.proofs.Prelude.{◌-◌, ◌∙◌, sym}
use Rattle.py_lines.proofs.FieldScans.FrameArrays.{first_frames, first_frames_last}
use Rattle.py_lines.proofs.frames.Frames.innermost.Goals as goal

pub returns : goal.returns
returns c =
    let (size, few, counted) = c.self.invariant in
    let fs = c.self.inside.frames in
    let n = c.self.inside.depth in
    (first_frames fs (n - 1), sym c.self.view_is ∙ first_frames_last fs n size few c.if-self-eq0.false)
