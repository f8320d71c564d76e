-- The sections are compared one by one.
use Rattle.std.proofs.Common.{◌≡◌, refl, lit<, ◌∙◌}
use Rattle.isort_settings.specs.contracts.section.SectionPartialEq.TheImpl.{eq-value}
use Rattle.isort_settings.specs.declared.section.Section.{Section}
use Rattle.isort_settings.specs.declared.section.Section.TheVariants.{Future, Stdlib, ThirdParty, FirstParty, LocalFolder, Own}
use Rattle.isort_settings.specs.FiveSections.{same_section}
use Rattle.isort_settings.proofs.Places.{same_pointwise, own_apart, other_apart, same_own}
use Rattle.isort_settings.proofs.section_order.SectionOrderPartialEq.eq.Goals as goal

by_number : (s t : Section) → eq-value.it s t ≡ same_section s t
by_number (Own i) (Own j) = same_own i j
by_number (Own i) Future = own_apart i 0 (lit< tt)
by_number (Own i) Stdlib = own_apart i 1 (lit< tt)
by_number (Own i) ThirdParty = own_apart i 2 (lit< tt)
by_number (Own i) FirstParty = own_apart i 3 (lit< tt)
by_number (Own i) LocalFolder = own_apart i 4 (lit< tt)
by_number Future (Own j) = other_apart 0 j (lit< tt)
by_number Stdlib (Own j) = other_apart 1 j (lit< tt)
by_number ThirdParty (Own j) = other_apart 2 j (lit< tt)
by_number FirstParty (Own j) = other_apart 3 j (lit< tt)
by_number LocalFolder (Own j) = other_apart 4 j (lit< tt)
by_number _ _ = refl

pub returns : goal.returns
returns c = rw (c.sections.ensures, c.sections-2.ensures) at (c.eq.ensures ∙ same_pointwise eq-value.it by_number c.sections.result.now c.sections-2.result.now)
