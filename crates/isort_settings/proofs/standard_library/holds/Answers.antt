-- The list is sorted, so a binary search finds what it holds. It holds no text that is longer than fifteen bytes.
use Rattle.std.proofs.Common.{◌≡◌, true, refl, sym, arith, ap, ◌∙◌, rules, tests}
use Rattle.std.proofs.lemmas.Fn.{always_returns_same}
use Rattle.std.specs.Cmp.Lexicographic.{slice_cmp}
use Rattle.std.specs.Ordering.{nat_cmp}
use Rattle.isort_settings.specs.Sections.{holds}
use Rattle.isort_settings.specs.StandardLibrary.{standard_library}
use Rattle.isort_settings.proofs.ModuleLists.{never_falls, search_finds, longest, longer_not_held}
use Rattle.isort_settings.proofs.standard_library.holds.Goals as goal

sorted : never_falls standard_library ≡ true
unfolding standard_library
sorted = refl

fifteen : longest standard_library ≡ 15
unfolding standard_library
fifteen = refl

pub returns-then-module-gt-LONGEST : goal.returns-then-module-gt-LONGEST
returns-then-module-gt-LONGEST c =
    sym (longer_not_held standard_library c.args.module.now (omega (arith, fifteen)))

pub returns : goal.returns
returns c =
    let facts = c.binary_search_by.ensures in
    c.is_ok.ensures.value
    ∙ search_finds c.modules.result.now c.args.module.now _ (ap never_falls c.modules.ensures ∙ sorted) facts.bound (facts.position (λ n. slice_cmp nat_cmp n.now c.args.module.now) (always_returns_same _ _ _ (λ a r f' k. search (rules, tests))))
    ∙ ap (λ m. holds m c.args.module.now) c.modules.ensures
