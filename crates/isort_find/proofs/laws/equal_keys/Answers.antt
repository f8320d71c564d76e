-- The keys are compared part by part.
use Rattle.std.proofs.Common.{◌∙◌, sym, ap}
use Rattle.isort_find.specs.KeyText.{key_in}
use Rattle.isort_find.specs.Key.{Key, key_eq}
use Rattle.isort_find.proofs.Keys.KeyTexts.{text_eq}
use Rattle.isort_find.proofs.Keys.Firsts.{key_same, key_refl}
use Rattle.isort_find.proofs.laws.equal_keys.Goals as goal

pub returns : goal.returns
returns c =
    let a = c.args.one.now in
    let b = c.args.other.now in
    let is = c.eq.ensures ∙ text_eq a b in
    (λ t. key_same (key_in a) (key_in b) (sym is ∙ t), λ e. is ∙ ap (λ (k : Key). key_eq (key_in a) k) (sym e) ∙ key_refl (key_in a))
