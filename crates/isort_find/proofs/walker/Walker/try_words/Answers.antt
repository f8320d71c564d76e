-- The line was read, or left unread, or it has a fault.
use Rattle.std.proofs.Common.{Err, ap, ◌∙◌}
use Rattle.py_lines.specs.UnitLine.{line_in}
use Rattle.isort_find.proofs.Walks.Tries.{tries_bad, tries_fine}
use Rattle.isort_find.proofs.walker.Walker.try_words.Goals as goal
use Rattle.isort_find.proofs.walker.Walker.try_words.Goals.{in-Ok-1, in-Err+in-Memory-1}

pub returns-in-Err-Fault : goal.returns-in-Err-Fault
returns-in-Err-Fault c = tries_bad c.args.self.now c.read.new.self (line_in c.args.unit.now) c.args.start c.read.result c.in-Err-Fault.fault c.read.ensures (c.in-Err-Fault.is ∙ ap Err c.in-Err-Fault.field-0-is)

pub returns-in-Ok : goal.returns-in-Ok
returns-in-Ok c = tries_fine c.args.self.now c.read.new.self c.look_ahead.new.self (line_in c.args.unit.now) c.args.start c.read.result c.read.ensures (λ fault is. elim c.in-Ok-1.branch [ in-Err+in-Memory-1 w ↦ cc | in-Ok-1 w ↦ cc ]) c.look_ahead.ensures
