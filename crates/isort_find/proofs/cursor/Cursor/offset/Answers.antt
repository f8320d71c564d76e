-- The cursor stands there.
use Rattle.std.proofs.Common.{ap}
use Rattle.isort_find.specs.Cursor.{CursorState}
use Rattle.isort_find.proofs.cursor.Cursor.offset.Goals as goal

pub returns : goal.returns
returns c = ap (λ (s : CursorState). s.offset) c.self.view_is
