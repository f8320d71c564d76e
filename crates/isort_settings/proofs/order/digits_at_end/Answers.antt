-- The first byte from the end that is no digit, or the start.
use Rattle.std.proofs.Common.{not, reverse, rules, tests, ◌∙◌, ap, sym}
use Rattle.std.proofs.lemmas.Iterator.Adapters.{YieldsList-from_rev_slice}
use Rattle.std.proofs.lemmas.Iterator.Search.{position_from_yields_List}
use Rattle.std.proofs.lemmas.List.{length-reverse}
use Rattle.std.specs.Char.{is_ascii_digit}
use Rattle.std.specs.Option.{unwrap_or}
use Rattle.isort_settings.proofs.OrderRuns.{position-run}
use Rattle.isort_settings.proofs.order.digits_at_end.Goals as goal

pub returns : goal.returns
returns c =
    c.unwrap_or.ensures
    ∙ ap (unwrap_or c.position.result) (sym (length-reverse c.args.text.now))
    ∙ position-run is_ascii_digit (reverse c.args.text.now) c.position.result
    (position_from_yields_List (λ b. not (is_ascii_digit b)) _ _ c.position.result c.position.ensures.ran (YieldsList-from_rev_slice c.args.text.now cc) (λ x b q k. search (rules, tests)))
