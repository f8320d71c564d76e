-- After a call that asks for what is ready, bytes may be fed as before it.
use Rattle.std.proofs.Common.{Option, None, Some, Result, Ok, Err, ap, ◌∙◌}
use Rattle.py_imports.specs.declared.binding.Binding.{Binding}
use Rattle.isort_find.specs.Pieces.{PieceFinderState, GivesReady, IsOpenYet}
use Rattle.isort_find.specs.declared.error.FindError.{FindError}
use Rattle.isort_find.specs.declared.error.FindError.TheVariants as error
use Rattle.isort_find.proofs.Fed.Held.{open_ready}
use Rattle.isort_find.proofs.Fed.OneLine.{open_or_fault}

pub stays_open : (old : PieceFinderState) (r : Result (Option Binding) FindError) (new : PieceFinderState) → GivesReady old r new → IsOpenYet old → IsOpenYet new
stays_open old (Ok (Some b)) new g yet fine = g.unfed.open_yet ∙ yet (λ fault is. open_or_fault old.position fault (open_ready old.position g.was_ready) is)
stays_open old (Ok None) new g yet fine = g.unfed.open_yet ∙ yet (λ fault is. fine fault (ap (λ (f : PieceFinderState). f.position) (g.after_fault fault is) ∙ is))
stays_open old (Err (error.Fault fault)) new g yet fine = absurd (fine fault g.stops.kept)
stays_open old (Err error.Memory) new (g, ready, next) yet fine = g.unfed.open_yet ∙ yet (λ fault is. open_or_fault old.position fault g.was_open is)
