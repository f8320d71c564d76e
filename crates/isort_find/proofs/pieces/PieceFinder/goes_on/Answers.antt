-- A line is held that gave nothing, or one was let go.
use Rattle.std.proofs.Common.{ap, ◌∙◌, sym, inr}
use Rattle.py_lines.specs.UnitLine.{line_in}
use Rattle.isort_find.specs.Pieces.{PieceFinderState}
use Rattle.isort_find.specs.Position.{phase_in}
use Rattle.isort_find.proofs.pieces.PieceFinder.goes_on.Goals as goal

pub returns-in-Some-clause-goes : goal.returns-in-Some-clause-goes
returns-in-Some-clause-goes c = λ t. record {
  is_open = ap (λ (f : PieceFinderState). phase_in f.position) (sym c.self.view_is) ∙ c.if-not-is_open.ensures.0 t;
  none_ready = sym c.if-has_ready.ensures;
  either = inr (inr (line_in c.in-Some.field-0, ap (λ (f : PieceFinderState). f.scanning.ready) (sym c.self.view_is) ∙ c.ready.ensures.some c.in-Some.field-0 c.in-Some.is));
}
