-- The walker takes the next binding.
use Rattle.isort_find.specs.Finder.{FinderState}
use Rattle.isort_find.proofs.Wholes.TakenNext.{gives_new}
use Rattle.isort_find.proofs.finder.Finder.next_new.Goals as goal
use Rattle.std.proofs.Common.{◌∙◌, ap}
use Rattle.isort_find.specs.Position.{phase_in}

pub returns : goal.returns
returns c =
    let w = c.self.inside.walker in
    rw (← c.self.view_is) (gives_new c.self.inside.lines w.position w.cursor _ _ (ap (λ (f : FinderState). phase_in f.position) c.self.view_is ∙ c.requires) c.next_new.ensures)
