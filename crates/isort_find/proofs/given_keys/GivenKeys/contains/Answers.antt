-- A look-up finds a key just where it is one of the keys.
use Rattle.std.proofs.Common.{◌∙◌}
use Rattle.isort_find.specs.KeyText.{key_in}
use Rattle.isort_find.specs.contracts.key.KeyTextOrd.TheImpl as ordered
use Rattle.isort_find.proofs.Keys.Places.{text_cmp, finds}
use Rattle.isort_find.proofs.given_keys.GivenKeys.contains.Goals as goal

pub returns : goal.returns
returns c = rw (← c.self.view_is) (
    c.contains_key.ensures ∙ finds ordered.cmp-value.it text_cmp c.args.key.now c.self.inside.places.entries ∙ c.self.invariant.same (key_in c.args.key.now))
