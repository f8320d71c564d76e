-- The test passes a key just where it is that of the binding.
use Rattle.std.proofs.Common.{length, rules, tests, ◌∙◌, ap}
use Rattle.std.specs.List.{list_any}
use Rattle.std.specs.Map.Iter.{TakesFirst, deref}
use Rattle.std.proofs.lemmas.Iterator.Search.{any_from_yields_List}
use Rattle.std.proofs.lemmas.Iterator.Consumers.{YieldsList-from_shown}
use Rattle.py_imports.specs.BindingValue.{binding_value}
use Rattle.isort_find.specs.Key.{key_of, key_eq}
use Rattle.isort_find.specs.KeyText.{key_in}
use Rattle.isort_find.proofs.Keys.Places.{any_place}
use Rattle.isort_find.proofs.given_keys.GivenKeys.has_key_of.Goals as goal

pub returns : goal.returns
returns c = rw (← c.self.view_is) (
    any_from_yields_List (λ k. key_eq (key_of c.args.key (binding_value c.args.binding.now)) (key_in k)) _ _ _ c.any.ensures.ran (YieldsList-from_shown (TakesFirst deref) deref (λ s. s) (λ s t e. ap length e.0) (λ s x t e. e) c.keys.result) (λ x b q k. search (rules, tests))
    ∙ ap (list_any (λ k. key_eq (key_of c.args.key (binding_value c.args.binding.now)) (key_in k))) c.keys.ensures.rest
    ∙ any_place (key_of c.args.key (binding_value c.args.binding.now)) c.self.inside.places.entries
    ∙ c.self.invariant.same (key_of c.args.key (binding_value c.args.binding.now)))
