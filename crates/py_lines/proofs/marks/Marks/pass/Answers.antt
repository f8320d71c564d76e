use Rattle.py_lines.proofs.SpecialBytes.Places.{passes_in_block}
use Rattle.py_lines.proofs.marks.Marks.pass.Goals as goal

pub returns-then-to-self-lt64 : goal.returns-then-to-self-lt64
returns-then-to-self-lt64 c from has le = passes_in_block c.args.text.now from c.args.to c.args.self.now has le c.requires.within c.if-to-self-lt64.true
