use Rattle.py_lines.proofs.Prelude.{◌≡◌, arith}
use Rattle.py_lines.proofs.Readers.NextLines.{lines_within}
use Rattle.py_lines.proofs.lines.Lines.at.Goals as goal

pub returns-clause-goes_on : goal.returns-clause-goes_on
returns-clause-goes_on c = λ lines given.
    let (within, few) = lines_within given.first in
    let place : c.at-state.result.place ≡ c.args.offset = omega (arith, c.at-state.ensures.place_is, c.min-place.ensures, within) in
    let line : c.at-state.result.line ≡ c.args.line = omega (arith, c.at-state.ensures.line_is, c.min.ensures, c.min-place.ensures, within, few) in
    let fault = c.at-state.ensures.no_fault in λ i. record { text = c.args.text.now; place = place i; line = line i; fault = fault i }
