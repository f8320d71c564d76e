use Rattle.std.proofs.Common.{Some, ap, ◌∙◌, inl}
use Rattle.isort_c.specs.Kept.{stored_reading}
use Rattle.isort_c.specs.declared.stored.Stored.{Stored}
use Rattle.isort_c.proofs.kept.keep.Goals as goal

pub returns-in-Ok : goal.returns-in-Ok
returns-in-Ok c = inl (c.plain.ensures, ap stored_reading c.of.ensures ∙ ap (λ (s : Stored). stored_reading (Some s)) c.in-Ok.ensures.ok)
