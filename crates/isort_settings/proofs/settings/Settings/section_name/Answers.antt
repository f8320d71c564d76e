-- The name stands at the section's place.
use Rattle.std.proofs.Common.{[], ap, ◌∙◌, option_map, string_bytes, sym, unwrap_or}
use Rattle.isort_settings.proofs.Names.{name_found}
use Rattle.isort_settings.proofs.settings.Settings.section_name.Goals as goal

pub returns-in-Some : goal.returns-in-Some
returns-in-Some c =
    rw c.in-Own.is
    (c.as_str.ensures.value ∙ sym (ap (λ o. unwrap_or (option_map (λ n. string_bytes n.now) o) []) c.in-Some.is)
    ∙ name_found c.args.self.now.own_names.items c.in-Own.place _ (rw c.deref.ensures.value at c.get.ensures.lookup))

pub returns-in-None : goal.returns-in-None
returns-in-None c =
    rw c.in-Own.is
    (sym (ap (λ o. unwrap_or (option_map (λ n. string_bytes n.now) o) []) c.in-None.is)
    ∙ name_found c.args.self.now.own_names.items c.in-Own.place _ (rw c.deref.ensures.value at c.get.ensures.lookup))
