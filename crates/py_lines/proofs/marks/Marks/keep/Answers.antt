use Rattle.py_lines.proofs.SpecialBytes.Places.{kept}
use Rattle.py_lines.proofs.marks.Marks.keep.Goals as goal

pub returns : goal.returns
returns c text special has = kept text c.args.place c.args.self.now c.requires.base c.requires.reach special has
