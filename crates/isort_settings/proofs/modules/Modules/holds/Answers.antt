-- Each list is searched in its own way.
use Rattle.std.proofs.Common.{codes, sym, ◌∙◌}
use Rattle.std.proofs.Math.Bool.{or-false}
use Rattle.std.proofs.lemmas.Cmp.{nat_list_eq_equiv}
use Rattle.isort_settings.proofs.modules.Modules.holds.Goals as goal

pub returns-in-StandardLibrary : goal.returns-in-StandardLibrary
returns-in-StandardLibrary c = rw c.in-StandardLibrary.is (rw c.as_bytes.ensures.value at c.holds.ensures)

pub returns-in-Future : goal.returns-in-Future
returns-in-Future c =
    rw c.in-Future.is (rw (c.as_bytes-in-Future.ensures.value, c.as_slice.ensures) at c.eq.ensures ∙ nat_list_eq_equiv.symm c.args.«module».now (codes "__future__") ∙ sym (or-false _))

pub returns-in-Listed : goal.returns-in-Listed
returns-in-Listed c = rw c.in-Listed.is (rw c.deref.ensures.value at c.is_among.ensures)

pub returns-in-Indexed : goal.returns-in-Indexed
returns-in-Indexed c = rw c.in-Indexed.is c.holds-in-Indexed.ensures
