-- No key was given.
use Rattle.std.proofs.Common.{List, ap}
use Rattle.isort_find.specs.Cursor.{first_cursor}
use Rattle.isort_find.specs.Key.{Key}
use Rattle.isort_find.proofs.cursor.Cursor.start.Goals as goal

pub returns : goal.returns
returns c = ap (λ (ks : List Key). record (first_cursor c.args.options) { keys = ks }) c.new.ensures
