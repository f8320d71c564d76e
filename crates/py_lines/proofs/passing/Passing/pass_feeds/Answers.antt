use Rattle.py_lines.proofs.Prelude.{rules, ap, inl, inr, Marks}
use Rattle.py_lines.proofs.passing.Passing.pass_feeds.Goals as goal

pub returns-then-is_empty : goal.returns-then-is_empty
returns-then-is_empty c bytes from has = inr (c.in-Some.end, c.in-Some.feeds, c.in-Some.ensures bytes from has, search rules)

pub returns-else-is_empty : goal.returns-else-is_empty
returns-else-is_empty c bytes from has = inr (c.in-Some.end, c.in-Some.feeds, c.in-Some.ensures bytes from has, search rules)

pub returns-in_default : goal.returns-in_default
returns-in_default c bytes from has = inl (ap (λ (m : Marks). record c.args.self.now { marks = m }) (c.in_default.ensures bytes from has))
