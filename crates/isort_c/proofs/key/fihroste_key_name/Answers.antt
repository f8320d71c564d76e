use Rattle.std.proofs.Common.{Option, List, ℕ, length, sym, ap, ◌∙◌, subst}
use Rattle.isort_settings.specs.declared.key.SettingKey.{SettingKey}
use Rattle.isort_c.specs.Answers.{filled}
use Rattle.isort_c.specs.KeyNumbers.{NamesKey}
use Rattle.isort_c.proofs.KeyLemmas.{at_its_number}
use Rattle.isort_c.proofs.key.fihroste_key_name.Goals as goal

pub returns-in-Some-clause-name : goal.returns-in-Some-clause-name
returns-in-Some-clause-name c =
    let name = c.as_bytes-name.ensures.value ∙ c.name.ensures in
    subst (λ (key : Option SettingKey). NamesKey key (length c.as_bytes-name.result.now) c.args.out.now c.fill.new.out) (sym c.in-Some.is ∙ c.key_of.ensures) (ap length name, c.fill.ensures ∙ ap (λ (bytes : List ℕ). filled bytes c.args.out.now) name)

pub returns-in-Some-clause-every_key : goal.returns-in-Some-clause-every_key
returns-in-Some-clause-every_key c = at_its_number

pub returns-in-None-clause-every_key : goal.returns-in-None-clause-every_key
returns-in-None-clause-every_key c = at_its_number
