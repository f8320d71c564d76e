-- Each key is skipped, taken or refused as the table of keys says.
use Rattle.std.proofs.Common.{ap, option_map, refl, sym, ◌∙◌}
use Rattle.std.proofs.lemmas.Result.{err_from_is_err_and}
use Rattle.isort_settings.proofs.Table.{comes_after, KeysLeft-all, KeysLeft-next, KeysLeft-none, KeysLeft-some, first_refusal-bad, first_refusal-at, first_refusal-end, values-end, not_after-none, none_left}
use Rattle.isort_settings.specs.declared.error.SettingsError.TheVariants.{BadValue}
use Rattle.isort_settings.proofs.settings.Settings.take_values.Goals.{in-None, in-Some+then-is_after}
use Rattle.isort_settings.proofs.settings.Settings.take_values.Goals as goal

pub loop-key-init : goal.loop-key-init
loop-key-init c = (tt, tt, KeysLeft-all _ _ _ (c.into_iter-key-iterator.ensures.into_iter_gives.0 ∙ c.in_order-key-items.ensures) c.requires.own_names, refl)

pub loop-key-preserved-in_default : goal.loop-key-preserved-in_default
loop-key-preserved-in_default c = (tt, tt, KeysLeft-none _ _ c.in-Some.key _ _ _ (KeysLeft-next _ _ _ _ _ _ c.in-Some.ensures.steps c.loop-key.invariant.2) c.name.ensures c.in_default.ensures, c.loop-key.invariant.3)

pub loop-key-preserved : goal.loop-key-preserved
loop-key-preserved c =
    (tt, tt, KeysLeft-some _ _ c.in-Some.key _ _ _ _ _ (KeysLeft-next _ _ _ _ _ _ c.in-Some.ensures.steps c.loop-key.invariant.2) c.name.ensures c.in-Some-member.ensures c.in_ok-take_value.ensures.ok, c.loop-key.invariant.3)

pub returns-in_err-take_value : goal.returns-in_err-take_value
returns-in_err-take_value c =
    let p = err_from_is_err_and c.from_residual.result c.from_residual.ensures.1 in
    rw (p.1, p.2) (record {
      unrefused = tt;
      filled = tt;
      refused = λ other. first_refusal-at _ _ c.in-Some.key _ _ _ _ _ _ c.requires.refused (sym (c.is_after.ensures ∙ ap (comes_after c.in-Some.key) c.loop-key.invariant.3) ∙ c.if-is_after.false)
          (KeysLeft-next _ _ _ _ _ _ c.in-Some.ensures.steps c.loop-key.invariant.2) c.name.ensures c.in-Some-member.ensures (c.in_err-take_value.ensures.refused other);
    })

pub returns-in-None-refused : goal.returns-in-None-refused
returns-in-None-refused c =
    let none_refused = sym c.loop-key.invariant.3 ∙ c.in-None-refused.is in
    elim c.match-next.branch [
      | in-None w ↦
          let none = none_left _ w.in-None.ensures.steps.0 in
          record {
            unrefused = first_refusal-end _ _ _ _ _ none c.requires.refused c.loop-key.invariant.2 ∙ ap (option_map (λ k. BadValue k)) none_refused;
            filled = λ profile base. values-end _ _ _ _ profile none c.loop-key.invariant.2 base;
            refused = tt;
          }
      | in-Some+then-is_after w ↦ absurd (not_after-none w.in-Some.key _ none_refused (sym (w.is_after.ensures ∙ ap (comes_after w.in-Some.key) c.loop-key.invariant.3) ∙ w.if-is_after.true))
    ]

pub returns-in-Some-refused : goal.returns-in-Some-refused
returns-in-Some-refused c =
    let why = ap (option_map (λ k. BadValue k)) (sym c.loop-key.invariant.3 ∙ c.in-Some-refused.is) in
    record {
      unrefused = tt;
      filled = tt;
      refused = λ other. elim c.match-next.branch [
        | in-None w ↦ first_refusal-end _ _ _ _ _ (none_left _ w.in-None.ensures.steps.0) c.requires.refused c.loop-key.invariant.2 ∙ why
        | in-Some+then-is_after w ↦
            let after = sym (w.is_after.ensures ∙ ap (comes_after w.in-Some.key) c.loop-key.invariant.3) ∙ w.if-is_after.true in
            first_refusal-bad _ _ w.in-Some.key _ _ _ c.requires.refused (KeysLeft-next _ _ _ _ _ _ w.in-Some.ensures.steps c.loop-key.invariant.2) after ∙ why
      ];
    }
