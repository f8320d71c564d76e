use Rattle.py_lines.proofs.Prelude.{◌∙◌, ap, get_or, sym}
use Rattle.py_lines.specs.declared.frames.Frame.TheVariants as frames
use Rattle.py_lines.specs.Private.Frames.{place_of}
use Rattle.py_lines.proofs.FieldScans.FrameArrays.{taken}
use Rattle.py_lines.proofs.frames.Frames.last_place.Goals as goal

pub returns-in-Bracket : goal.returns-in-Bracket
returns-in-Bracket c frame others is =
    let fs = c.self.inside.frames in
    let last = taken fs c.self.inside.depth frame c.args.self.now c.self.inside.fields c.self.invariant c.self.view_is (others, is) in
    ap place_of (sym c.in-Bracket.is ∙ ap (λ k. get_or fs k (frames.Bracket 0 0)) c.saturating_sub.ensures ∙ last.last)

pub returns-in-Field : goal.returns-in-Field
returns-in-Field c frame others is =
    let fs = c.self.inside.frames in
    let last = taken fs c.self.inside.depth frame c.args.self.now c.self.inside.fields c.self.invariant c.self.view_is (others, is) in
    ap place_of (sym c.in-Field.is ∙ ap (λ k. get_or fs k (frames.Bracket 0 0)) c.saturating_sub.ensures ∙ last.last)
