-- The reader goes back to the line that was left unread.
use Rattle.std.proofs.Common.{sym, ◌∙◌}
use Rattle.isort_find.proofs.Wholes.ReadLine.{went_back}
use Rattle.isort_find.proofs.finder.Finder.go_back.Goals as goal

pub returns-in-Ok-clause-ok : goal.returns-in-Ok-clause-ok
returns-in-Ok-clause-ok c =
    let s = c.self.inside in
    rw (← c.self.view_is) (went_back s.lines c.in-Ok.lines s.text.now s.walker.position s.walker.cursor c.in-Some.start c.go_back.new.self c.self.invariant.0 (sym c.unread.ensures ∙ c.in-Some.is) c.in-Ok.ensures.goes_on c.in-Ok.ensures.text c.go_back.ensures)
