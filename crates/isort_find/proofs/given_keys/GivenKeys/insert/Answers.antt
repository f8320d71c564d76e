-- A new key goes after those that are there.
use Rattle.std.proofs.Common.{◌≡◌, false, List, ◌++◌, [], ◌∷◌, ap, sym, subst, ◌∙◌}
use Rattle.std.specs.List.{list_any}
use Rattle.isort_find.specs.Key.{Key, key_eq}
use Rattle.isort_find.specs.KeyText.{key_in}
use Rattle.isort_find.specs.contracts.key.KeyTextOrd.TheImpl as ordered
use Rattle.isort_find.proofs.Keys.Places.{text_cmp, one_more}
use Rattle.isort_find.proofs.given_keys.GivenKeys.insert.Goals as goal

pub invariant_of-self-2 : goal.invariant_of-self-2
invariant_of-self-2 c =
    (one_more ordered.cmp-value.it text_cmp c.args.key c.self.inside.places.entries _ _ c.self.invariant
    (subst (λ (ks : List Key). list_any (key_eq (key_in c.args.key)) ks ≡ false) (sym c.self.view_is) (sym c.contains.ensures ∙ c.if-contains.false))
    c.len-place.ensures.len c.in_ok-insert.ensures.entries).0

pub returns-clause-added : goal.returns-clause-added
returns-clause-added c =
    (one_more ordered.cmp-value.it text_cmp c.args.key c.self.inside.places.entries _ _ c.self.invariant
    (subst (λ (ks : List Key). list_any (key_eq (key_in c.args.key)) ks ≡ false) (sym c.self.view_is) (sym c.contains.ensures ∙ c.if-contains.false))
    c.len-place.ensures.len c.in_ok-insert.ensures.entries).1
    ∙ ap (λ (ks : List Key). ks ++ key_in c.args.key ∷ []) c.self.view_is
