-- Both texts give their bytes, with ASCII capitals made small.
use Rattle.std.proofs.Common.{◌≡◌, rules, tests, refl, nat_cmp}
use Rattle.std.proofs.lemmas.Iterator.{YieldsList-from_slice, YieldsList-from_map}
use Rattle.std.proofs.lemmas.Iterator.Search.{cmp_from_yields_List}
use Rattle.std.specs.Char.{to_ascii_lowercase}
use Rattle.isort_settings.proofs.order.text_cmp.Goals as goal

pub returns-else-case_sensitive : goal.returns-else-case_sensitive
returns-else-case_sensitive c = rw c.if-case_sensitive.false (
    cmp_from_yields_List (λ x y. y ≡ x) _ nat_cmp _ c.cmp-else-case_sensitive.ensures.ran
    (YieldsList-from_map _ to_ascii_lowercase (YieldsList-from_slice c.args.a.now cc) c.map.ensures.closure (λ x r q k. search (rules, tests)))
    (λ it e. rw e (YieldsList-from_map _ to_ascii_lowercase (YieldsList-from_slice c.args.b.now cc) c.map-else-case_sensitive.ensures.closure (λ x r q k. search (rules, tests))))
    (λ x y. refl))
