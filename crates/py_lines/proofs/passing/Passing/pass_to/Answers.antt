use Rattle.py_lines.proofs.Prelude.{ap, arith, drop, ◌-◌, ◌≤◌, ◌≡◌, ◌∙◌, List, ℕ, ◌+◌, refl, drop-drop, line_ends, rest_is, rest_of}
use Rattle.py_lines.proofs.LineScan.LineCount.{line_ends-le}
use Rattle.py_lines.proofs.passing.Passing.pass_to.Goals as goal

-- what is left of the rest
left : (bytes : List ℕ) (from to : ℕ) → from ≤ to → drop (to - from) (rest_of bytes from) ≡ drop to bytes
left bytes from to further =
    let there : from + (to - from) ≡ to = omega (arith, further) in
    ap (drop (to - from)) (rest_is bytes from) ∙ drop-drop (to - from) from bytes ∙ ap (λ n. drop n bytes) there

pub overflow_add-self : goal.overflow_add-self
overflow_add-self c =
    let bytes = c.args.bytes.now in
    omega (arith, c.requires.counted, c.line_ends_up_to.ensures, ap line_ends (rest_is bytes c.args.self.now.all), line_ends-le bytes, c.well_formed)

pub returns : goal.returns
returns c =
    let bytes = c.args.bytes.now in
    let from = c.args.self.now.all in
    record {
      passed = refl;
      counted = omega (arith, c.requires.counted, c.line_ends_up_to.ensures, ap line_ends (rest_is bytes from), ap line_ends (left bytes from c.args.to c.requires.further));
      marked = c.anew-self.ensures.marks;
    }
