use Rattle.py_lines.proofs.Prelude.{IsUtf8, take, ap, subst, sym, ◌∙◌, arith, length, length-take, length-take-le, length-drop, drop, ◌≤◌, ◌+◌, spelled, rest_is, rest_of}
use Rattle.py_lines.specs.Private.Outline.{outline_at}
use Rattle.py_lines.proofs.source.Source.line.Goals as goal
use Rattle.py_lines.proofs.source.Source.line.Goals.{At-field_known-1-known-fits}

pub returns : goal.returns
returns c =
    let s = c.args.self.now in
    c.of.ensures ∙ ap (λ t. outline_at (take s.state.scan.stop t) s.state.place s.state.line c.args.end_len) (rest_is s.bytes.now s.state.place)

pub of-requires-clause-utf8 : goal.of-requires-clause-utf8
of-requires-clause-utf8 c =
    let s = c.args.self.now in
    let line = c.requires.is.text in
    subst (λ t. IsUtf8 (take s.state.scan.stop t)) (sym (rest_is s.bytes.now s.state.place)) (spelled c.requires.is.pieces, (line.scalars, line.spell))

-- the line's text is no longer than what is left of the text
length_text : (c : At-field_known-1-known-fits) → let s = c.args.self.now in length (take s.state.scan.stop (rest_of s.bytes.now s.state.place)) + s.state.place ≤ length s.bytes.now
length_text c =
    let s = c.args.self.now in
    omega (arith, length-take s.state.scan.stop (rest_of s.bytes.now s.state.place), ap length (rest_is s.bytes.now s.state.place), length-drop s.state.place s.bytes.now, s.within)

pub of-requires-clause-places : goal.of-requires-clause-places
of-requires-clause-places c =
    let s = c.args.self.now in
    omega (arith, length_text c, s.within, c.well_formed)

pub of-requires-clause-lines : goal.of-requires-clause-lines
of-requires-clause-lines c =
    let s = c.args.self.now in
    omega (arith, length_text c, s.within, s.few_lines, c.well_formed)

pub slice_bounds-text-end-2 : goal.slice_bounds-text-end-2
slice_bounds-text-end-2 c =
    let s = c.args.self.now in
    sym (ap (λ t. length (take s.state.scan.stop t)) (rest_is s.bytes.now s.state.place) ∙ length-take-le s.state.scan.stop (drop s.state.place s.bytes.now) c.requires.is.within)
