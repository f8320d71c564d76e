-- The lists are compared text by text, whose bytes are compared.
use Rattle.std.proofs.Common.{sym, ◌∙◌}
use Rattle.isort_settings.proofs.Indexes.{same_lists}
use Rattle.isort_settings.proofs.own_lists.OwnListsPartialEq.eq.Goals as goal

pub returns : goal.returns
returns c = rw (← c.self.view_is, ← c.other.view_is) (c.eq.ensures ∙ sym (same_lists c.self.inside.kept.list.items c.other.inside.kept.list.items))
