-- These are its options.
use Rattle.std.proofs.Common.{ap}
use Rattle.isort_find.specs.Cursor.{CursorState}
use Rattle.isort_find.proofs.cursor.Cursor.options.Goals as goal

pub returns : goal.returns
returns c = ap (λ (s : CursorState). s.options) c.self.view_is
