-- So many imports were given.
use Rattle.std.proofs.Common.{ap}
use Rattle.isort_find.specs.Cursor.{CursorState}
use Rattle.isort_find.proofs.cursor.Cursor.given.Goals as goal

pub returns : goal.returns
returns c = ap (λ (s : CursorState). s.given) c.self.view_is
