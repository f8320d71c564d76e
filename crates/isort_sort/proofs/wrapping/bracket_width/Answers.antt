use Rattle.std.proofs.Common.{◌≡◌, codes, ap, ◌∙◌, arith}
use Rattle.isort_sort.specs.Width.{width}
use Rattle.isort_sort.proofs.Layouts.Lengths.{width-append}
use Rattle.isort_sort.proofs.wrapping.bracket_width.Goals as goal

pub returns : goal.returns
returns c =
    let module_width : c.width.result ≡ width c.args.path.now = c.width.ensures.value ∙ ap width c.as_bytes.ensures.value in
    omega (arith, width-append c.args.path.now (codes " import "))
