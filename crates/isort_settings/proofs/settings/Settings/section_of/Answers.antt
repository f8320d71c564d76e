-- The prefixes are looked up one after another, and the first that a list holds decides.
use Rattle.std.proofs.Common.{◌≡◌, take, suc, ◌-◌, Option, Some, None, sym, ◌∙◌, ap, arith}
use Rattle.std.specs.Option.{option_map_or}
use Rattle.isort_settings.specs.declared.section.Section.{Section}
use Rattle.isort_settings.specs.Sections.{lists_of}
use Rattle.isort_settings.specs.Sections.OnePrefix.{section_holding}
use Rattle.isort_settings.specs.Values.{Values, values}
use Rattle.isort_settings.proofs.Prefixes.{section_of_cuts, section_of_cuts-skip, section_of_cuts-at, section_in-cuts, section_in-whole}
use Rattle.isort_settings.proofs.settings.Settings.section_of.Goals as goal

-- what an answer of the look-up means, with the default section
or_default : (v : Values) (o p : Option Section) → o ≡ p → option_map_or (λ s. s) o v.default_section ≡ option_map_or (λ s. s) p v.default_section
or_default v o p same = ap (λ x. option_map_or (λ s. s) x v.default_section) same

pub returns-in-Some : goal.returns-in-Some
returns-in-Some c =
    sym (section_in-whole (values c.args.self.now) c.args.«module».now _ (rw c.as_bytes-name.ensures.value at (sym c.is_relative.ensures ∙ c.if-is_relative.false)) (sym c.listed.ensures ∙ c.in-Some.is))

pub loop-stop-init : goal.loop-stop-init
loop-stop-init c =
    rw c.as_bytes-name.ensures.value
    (section_in-cuts (values c.args.self.now) c.args.«module».now (rw c.as_bytes-name.ensures.value at (sym c.is_relative.ensures ∙ c.if-is_relative.false)) (sym c.listed.ensures ∙ c.in_default.is))

pub loop-stop-preserved : goal.loop-stop-preserved
loop-stop-preserved c =
    let next : c.loop-stop.stop ≡ suc (c.loop-stop.stop - 1) = omega arith in
    let v : Values = values c.args.self.now in
    c.loop-stop.invariant ∙ or_default v _ _ (section_of_cuts-skip (lists_of v) c.args.«module».now _ _ next (rw c.as_bytes-name.ensures.value at c.if-name-stop-eq46.false))

pub loop-stop-preserved-in_default-listed : goal.loop-stop-preserved-in_default-listed
loop-stop-preserved-in_default-listed c =
    let next : c.loop-stop.stop ≡ suc (c.loop-stop.stop - 1) = omega arith in
    let v : Values = values c.args.self.now in
    let cut : c.range.result.now ≡ take (c.loop-stop.stop - 1) c.args.«module».now = grind arith in
    c.loop-stop.invariant
    ∙ or_default v _ _ (section_of_cuts-at (lists_of v) c.args.«module».now _ _ None next (rw c.as_bytes-name.ensures.value at c.if-name-stop-eq46.true)
    (ap (section_holding (lists_of v)) (sym cut) ∙ sym c.listed-then-name-stop-eq46.ensures ∙ c.in_default-listed.is))

pub returns-in-Some-listed : goal.returns-in-Some-listed
returns-in-Some-listed c =
    let next : c.loop-stop.stop ≡ suc (c.loop-stop.stop - 1) = omega arith in
    let v : Values = values c.args.self.now in
    let cut : c.range.result.now ≡ take (c.loop-stop.stop - 1) c.args.«module».now = grind arith in
    sym (c.loop-stop.invariant
    ∙ or_default v _ _ (section_of_cuts-at (lists_of v) c.args.«module».now _ _ (Some c.in-Some-listed.section) next (rw c.as_bytes-name.ensures.value at c.if-name-stop-eq46.true)
    (ap (section_holding (lists_of v)) (sym cut) ∙ sym c.listed-then-name-stop-eq46.ensures ∙ c.in-Some-listed.is)))

pub returns : goal.returns
returns c =
    let none : c.loop-stop.stop ≡ 0 = omega arith in
    sym (c.loop-stop.invariant ∙ ap (λ n. option_map_or (λ s. s) (section_of_cuts (lists_of (values c.args.self.now)) c.args.«module».now n) c.args.self.now.default_section) none)
