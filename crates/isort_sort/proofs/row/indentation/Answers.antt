use Rattle.std.proofs.Common.{◌+◌, ap, sym, subst, arith, rules}
use Rattle.std.specs.Str.{IsUtf8, IsCharBoundary}
use Rattle.py_lines.specs.Lines.{line_in}
use Rattle.isort_sort.proofs.Rows.Marks.{mark_boundary, indentation_boundary}
use Rattle.isort_sort.proofs.row.indentation.Goals as goal

pub overflow_add-start : goal.overflow_add-start
overflow_add-start c =
    let unit = c.args.unit.now in
    omega (arith, c.mark_len-start.ensures, unit.places_fit, (indentation_boundary (line_in unit) unit.tokens_lie_in c.requires.first).0)

pub range-requires-clause-start_boundary : goal.range-requires-clause-start_boundary
range-requires-clause-start_boundary c =
    let utf8 : IsUtf8 c.args.unit.now.text.now = search rules in
    λ some. subst (IsCharBoundary c.args.unit.now.text.now) (sym c.mark_len-start.ensures) (mark_boundary (line_in c.args.unit.now) utf8)

pub range-requires-clause-end_boundary : goal.range-requires-clause-end_boundary
range-requires-clause-end_boundary c =
    let unit = c.args.unit.now in
    subst (IsCharBoundary unit.text.now) (ap (λ n. n + unit.indent) (sym c.mark_len-start.ensures)) (indentation_boundary (line_in unit) unit.tokens_lie_in c.requires.first)
