-- The own lists come first.
use Rattle.std.proofs.Common.{◌∙◌, ◌+◌, ◌<◌, length, sym, ap, arith, option_map}
use Rattle.std.specs.Option.{option_or}
use Rattle.isort_settings.specs.declared.section.Section.TheVariants.{Own}
use Rattle.isort_settings.specs.Holds.{holds}
use Rattle.isort_settings.specs.Sections.{five_lists_of}
use Rattle.isort_settings.specs.Sections.OnePrefix.{section_holding}
use Rattle.isort_settings.specs.Values.{values}
use Rattle.isort_settings.proofs.Places.{own_lists_first, place_within}
use Rattle.isort_settings.proofs.settings.Settings.listed.Goals as goal

pub returns-in-Some : goal.returns-in-Some
returns-in-Some c =
    let v = values c.args.self.now in
    sym (own_lists_first v c.args.prefix.now ∙ ap (λ o. option_or (option_map (λ n. Own n) o) (section_holding (five_lists_of v) c.args.prefix.now)) (sym c.holder.ensures ∙ c.in-Some.is))

pub returns-in-None : goal.returns-in-None
returns-in-None c =
    let v = values c.args.self.now in
    c.listed_in_five.ensures
    ∙ sym (own_lists_first v c.args.prefix.now ∙ ap (λ o. option_or (option_map (λ n. Own n) o) (section_holding (five_lists_of v) c.args.prefix.now)) (sym c.holder.ensures ∙ c.in-None.is))

-- each place is one of an own section
pub overflow_cast-result : goal.overflow_cast-result
overflow_cast-result c =
    let v = values c.args.self.now in
    let within : c.in-Some.place < 0 + length v.own_lists = rw (sym c.holder.ensures ∙ c.in-Some.is) at (place_within (λ list. holds list c.args.prefix.now) 0 v.own_lists) in
    omega (arith, within, c.args.self.now.list_for_each_own, c.args.self.now.few_own_sections)
