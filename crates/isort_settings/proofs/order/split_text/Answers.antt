-- The first digit, or the end.
use Rattle.std.proofs.Common.{◌≡◌, not, drop, take, rules, tests, ◌∙◌, ap, arith}
use Rattle.std.proofs.lemmas.Iterator.{YieldsList-from_slice}
use Rattle.std.proofs.lemmas.Iterator.Search.{position_from_yields_List}
use Rattle.std.proofs.lemmas.List.Sums.{prefix_len-le-length}
use Rattle.std.specs.Char.{is_ascii_digit}
use Rattle.std.specs.List.{position_or_len}
use Rattle.isort_settings.proofs.OrderRuns.{position-end}
use Rattle.isort_settings.proofs.order.split_text.Goals as goal

pub split_at-requires : goal.split_at-requires
split_at-requires c =
    let e : c.unwrap_or-start.result ≡ position_or_len is_ascii_digit c.args.text.now =
    c.unwrap_or-start.ensures
    ∙ position-end is_ascii_digit _ c.position.result
    (position_from_yields_List (is_ascii_digit) _ _ c.position.result c.position.ensures.ran (YieldsList-from_slice _ c.iter.ensures.rest) (λ x b q k. search (rules, tests))) in
    omega (arith, prefix_len-le-length (λ b. not (is_ascii_digit b)) c.args.text.now)

pub returns : goal.returns
returns c =
    let e : c.unwrap_or-start.result ≡ position_or_len is_ascii_digit c.args.text.now =
    c.unwrap_or-start.ensures
    ∙ position-end is_ascii_digit _ c.position.result
    (position_from_yields_List (is_ascii_digit) _ _ c.position.result c.position.ensures.ran (YieldsList-from_slice _ c.iter.ensures.rest) (λ x b q k. search (rules, tests))) in
    record {
      before = c.split_at.ensures.front ∙ ap (λ k. take k c.args.text.now) e;
      rest = c.split_at.ensures.back ∙ ap (λ k. drop k c.args.text.now) e;
    }
