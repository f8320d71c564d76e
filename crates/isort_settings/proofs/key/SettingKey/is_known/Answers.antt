-- `profile` and `sections` are tested first, and then the keys in order.
use Rattle.std.proofs.Common.{◌≡◌, ◌||◌, Bool, true, false, rules, tests, ◌∙◌, ap, bytes_eq}
use Rattle.std.proofs.lemmas.Iterator.{YieldsList-from_slice}
use Rattle.std.proofs.lemmas.Iterator.Search.{any_from_yields_List}
use Rattle.std.specs.List.{list_any}
use Rattle.isort_settings.specs.Keys.{is_known, name_of}
use Rattle.isort_settings.proofs.key.SettingKey.is_known.Goals as goal

first_true : (r a b : Bool) → r ≡ a → r ≡ true → r ≡ (a || b)
first_true r true b is held = held
first_true r false b is held = cc

first_false : (r a b s : Bool) → r ≡ a → r ≡ false → s ≡ b → s ≡ (a || b)
first_false r true b s is failed rest = cc
first_false r false b s is failed rest = rest

pub returns-then-is_read_apart : goal.returns-then-is_read_apart
unfolding is_known
returns-then-is_read_apart c = first_true _ _ _ c.is_read_apart.ensures c.if-is_read_apart.true

pub returns-else-is_read_apart : goal.returns-else-is_read_apart
unfolding is_known
returns-else-is_read_apart c =
    first_false _ _ _ _ c.is_read_apart.ensures c.if-is_read_apart.false
    (any_from_yields_List (λ k. bytes_eq (name_of k) c.args.name.now) _ _ _ c.any.ensures.ran (YieldsList-from_slice c.in_order.result c.iter.ensures.rest) (λ x b q k. search (rules, tests))
    ∙ ap (list_any (λ k. bytes_eq (name_of k) c.args.name.now)) c.in_order.ensures)
