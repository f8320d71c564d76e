use Rattle.py_lines.proofs.SpecialBytes.Places.{none_left}
use Rattle.py_lines.proofs.marks.Marks.advance.Goals as goal

pub returns-clause-marks : goal.returns-clause-marks
returns-clause-marks c from has = (none_left c.args.text.now from c.args.self.now has c.if-self-ne0.false, c.at.ensures.marks)
