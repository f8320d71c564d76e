-- One of the two tests passes.
use Rattle.std.proofs.Common.{rules, tests, bytes_eq}
use Rattle.std.proofs.lemmas.Iterator.{YieldsList-from_slice}
use Rattle.std.proofs.lemmas.Iterator.Search.{any_from_yields_List}
use Rattle.isort_settings.specs.Pyproject.{is_key}
use Rattle.isort_settings.proofs.pyproject.is_key.Goals as goal

pub returns-then-is_known : goal.returns-then-is_known
unfolding is_key
returns-then-is_known c = search rules

pub returns-else-is_known : goal.returns-else-is_known
unfolding is_key
returns-else-is_known c =
    let held = any_from_yields_List (λ k. bytes_eq k c.args.name.now) _ _ _ c.any.ensures.ran (YieldsList-from_slice c.args.own_keys.now c.iter.ensures.rest) (λ x b q k. search (rules, tests)) in
    search (rules, held)
