use Rattle.py_lines.proofs.Prelude.{arith, rules}
use Rattle.py_lines.proofs.SpecialBytes.Places.{passes_feeds}
use Rattle.py_lines.proofs.marks.Marks.pass_feeds.Goals as goal

pub returns : goal.returns
returns c text from has = passes_feeds text from c.args.self.now has (search rules) (search rules) (omega (arith, c.if-passed-eq0.false))
