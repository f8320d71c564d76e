-- The text is an entry just where it holds no wildcard.
use Rattle.std.proofs.Common.{◌≡◌, rules, tests, sym, ◌∙◌, arith}
use Rattle.std.proofs.lemmas.Iterator.Adapters.{YieldsList-from_bytes}
use Rattle.std.proofs.lemmas.Iterator.Search.{any_from_yields_List}
use Rattle.std.specs.List.{list_any}
use Rattle.isort_settings.specs.Entries.{is_wildcard}
use Rattle.isort_settings.proofs.value.entry.Goals as goal

pub returns-then-any : goal.returns-then-any
returns-then-any c =
    let wild : c.any.result ≡ list_any is_wildcard c.in_ok-text.text.now =
    any_from_yields_List is_wildcard _ _ _ c.any.ensures.ran (YieldsList-from_bytes _ c.bytes.ensures.rest) (λ x b q k. search (rules, tests)) in
    let found = sym wild ∙ c.if-any.true in
    grind (arith, found)

pub returns-else-any : goal.returns-else-any
returns-else-any c =
    let wild : c.any.result ≡ list_any is_wildcard c.in_ok-text.text.now =
    any_from_yields_List is_wildcard _ _ _ c.any.ensures.ran (YieldsList-from_bytes _ c.bytes.ensures.rest) (λ x b q k. search (rules, tests)) in
    let found = sym wild ∙ c.if-any.false in
    grind (arith, found)
